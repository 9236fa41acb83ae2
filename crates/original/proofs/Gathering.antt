-- One cell more of zinialg_rng's two loops: the front of the run holds the ties so far, or the cells to fall back on. Assumes nothing.
use Prim.Native.Nat.{ℕ, ◌+◌, ◌<◌}
use native.Mathlib.Omega.{arith}
use native.Mathlib.Numerals.{add-one}
use mathlib.Core.Path.{◌∙◌, ◌≡◌, ap, ap₂, refl, subst, subst₂, sym}
use mathlib.Core.Bool.{Bool, ◌&&◌, ◌||◌, cond, false, not, true}
use mathlib.Core.List.{List, [], ◌++◌, ◌∷◌, append-nil}
use lib.Dec.{T}
use lib.IntN.{pos, ℤ}
use lib.Signed.{le_z, lt_z}
use lib.ListN.{get_or, length, length-append, length-set, set, take}
use lib.Seq.{get_or-take, take-suc-set}
use Rattle.game.specs.Grid.{Grid, mine, safe, same, size}
use Rattle.game.specs.Lists.{keep}
use Rattle.game.specs.Position.{Position, Tidy, opened, premium}
use Rattle.game.specs.Rounds.{closed_unit_cell}
use Rattle.original.specs.Cells.{Zcell}
use Rattle.original.specs.Play.{State}
use Rattle.original.specs.Rounds.{Falls, Ties, fallen, tied}
use Rattle.game.proofs.Counts.{count_le, length_keep}
use Rattle.game.proofs.Truth.{T→true, and_both}
use Rattle.original.proofs.Choosing.{falls_unit, looks}
use Rattle.original.proofs.Positions.{Models}
use Rattle.original.proofs.Scans.{Scanned, keep_snoc, not_lt, reaches, scanned_higher, scanned_same}

-- the front of a run holds a list
pub record Front (n : ℕ) (ls : List ℕ) (len : ℕ) (run : List ℕ) : Type 0 where
  pub counted : len ≡ length ls
  pub room : length run ≡ n
  pub front : take len run ≡ ls

-- one more at its end
pub front_more : (n : ℕ) (ls : List ℕ) (len : ℕ) (run : List ℕ) (x : ℕ) → len < n → Front n ls len run → Front n (ls ++ (x ∷ [])) (len + 1) (set run len x)
front_more n ls len run x h f =
    record {
      counted = omega (arith, f.counted, length-append ls (x ∷ []));
      room = length-set run len x ∙ f.room;
      front = ap (λ (k : ℕ). take k (set run len x)) (add-one len) ∙ take-suc-set run len x (omega (arith, f.room)) ∙ ap (λ (l : List ℕ). l ++ (x ∷ [])) f.front;
    }

pub front_same : (n : ℕ) (ls : List ℕ) (len : ℕ) (run : List ℕ) → Front n ls len run → Front n (ls ++ []) len run
front_same n ls len run f = subst (λ (l : List ℕ). Front n l len run) (sym (append-nil ls)) f

pub front_none : (n : ℕ) (run : List ℕ) → length run ≡ n → Front n [] 0 run
front_none n run e = record { counted = refl; room = e; front = refl }

pub front_at : (n : ℕ) (ls : List ℕ) (len : ℕ) (run : List ℕ) (k : ℕ) → k < length ls → Front n ls len run → get_or run k 0 ≡ get_or ls k 0
front_at n ls len run k h f = sym (get_or-take len run k 0 (omega (arith, f.counted))) ∙ ap (λ (l : List ℕ). get_or l k 0) f.front

module _ (human : Bool) (g : Grid) (s : Position) (n : ℕ) (st : State) (w : Models g s n st) where
  -- ---- the loop for the highest premium and its ties

  pub record Tied (ps : List ℕ) (b : Ties) : Type 0 where
    pub list : List ℕ
    pub scan : Scanned (looks human g s) (premium g s) ps b.maxp list
    pub kept_in : Front (size g) list b.curi_len b.maxpr

  pub tied_one : (ps : List ℕ) (x : ℕ) (b : Ties) → x < size g → length ps < size g → Tied ps b → Tied (ps ++ (x ∷ [])) (tied human st.cells b x)
  tied_one ps x b h l p =
      subst (λ (z : Zcell). Tied (ps ++ (x ∷ [])) (by z.mine (human && not z.opened) z.premium)) (sym (w.board.reads x h)) (go (mine g x) refl (human && not (opened s x)) refl)
    where
      by : Bool → Bool → ℤ → Ties
      by mined passed p =
          cond mined b
          (cond passed b
          (cond (lt_z b.maxp p) (record { maxp = p; curi_len = 1; maxpr = set b.maxpr 0 x })
          (cond (le_z (pos 0) b.maxp && le_z p b.maxp && le_z b.maxp p)
          (record { maxp = b.maxp; curi_len = b.curi_len + 1; maxpr = set b.maxpr b.curi_len x }) b)))

      few : b.curi_len < size g
      few =
          omega (arith, p.kept_in.counted, ap length p.scan.tops, length_keep (reaches (looks human g s) (premium g s) b.maxp) ps, count_le (reaches (looks human g s) (premium g s) b.maxp) ps)

      -- a cell that is not looked at is passed over
      pass : looks human g s x ≡ false → Tied (ps ++ (x ∷ [])) b
      pass e =
          record {
            list = p.list ++ cond (reaches (looks human g s) (premium g s) b.maxp x) (x ∷ []) [];
            scan = scanned_same (looks human g s) (premium g s) ps b.maxp p.list x (λ t. absurd (subst T e t)) p.scan;
            kept_in = subst (λ (c : Bool). Front (size g) (p.list ++ cond (c && (le_z (pos 0) b.maxp && same (premium g s x) b.maxp)) (x ∷ []) []) b.curi_len b.maxpr) (sym e)
                (front_same (size g) p.list b.curi_len b.maxpr p.kept_in);
          }

      look : T (looks human g s x) → Tied (ps ++ (x ∷ [])) (by false false (premium g s x))
      look t = higher (lt_z b.maxp (premium g s x)) refl
        where
          f : ℤ
          f = premium g s x

          rest : Bool → Bool → Ties
          rest c d =
              cond c (record { maxp = f; curi_len = 1; maxpr = set b.maxpr 0 x })
              (cond d (record { maxp = b.maxp; curi_len = b.curi_len + 1; maxpr = set b.maxpr b.curi_len x }) b)

          flat : (le_z (pos 0) b.maxp && le_z f b.maxp && le_z b.maxp f) ≡ reaches (looks human g s) (premium g s) b.maxp x
          flat =
              assoc (le_z (pos 0) b.maxp) (le_z f b.maxp) (le_z b.maxp f)
              ∙ ap (λ (c : Bool). c && (le_z (pos 0) b.maxp && same f b.maxp)) (sym (T→true (looks human g s x) t))
            where
              assoc : (a b c : Bool) → (a && b && c) ≡ (a && (b && c))
              assoc true b c = refl
              assoc false b c = refl

          ties : (d : Bool) → Front (size g) (p.list ++ cond d (x ∷ []) []) (rest false d).curi_len (rest false d).maxpr
          ties true = front_more (size g) p.list b.curi_len b.maxpr x few p.kept_in
          ties false = front_same (size g) p.list b.curi_len b.maxpr p.kept_in

          same-high : (d : Bool) → (rest false d).maxp ≡ b.maxp
          same-high true = refl
          same-high false = refl

          higher : (c : Bool) → lt_z b.maxp f ≡ c → Tied (ps ++ (x ∷ [])) (rest c (le_z (pos 0) b.maxp && le_z f b.maxp && le_z b.maxp f))
          higher true e =
              record {
                list = x ∷ [];
                scan = scanned_higher (looks human g s) (premium g s) ps b.maxp p.list x t (rw e tt) p.scan;
                kept_in = front_more (size g) [] 0 b.maxpr x (omega arith) (front_none (size g) b.maxpr p.kept_in.room);
              }
          higher false e =
              subst (λ (d : Bool). Tied (ps ++ (x ∷ [])) (rest false d)) (sym flat)
              (record {
                list = p.list ++ cond (reaches (looks human g s) (premium g s) b.maxp x) (x ∷ []) [];
                scan = subst (λ (m : ℤ). Scanned (looks human g s) (premium g s) (ps ++ (x ∷ [])) m (p.list ++ cond (reaches (looks human g s) (premium g s) b.maxp x) (x ∷ []) []))
                    (sym (same-high (reaches (looks human g s) (premium g s) b.maxp x)))
                    (scanned_same (looks human g s) (premium g s) ps b.maxp p.list x (λ u. not_lt b.maxp f e) p.scan);
                kept_in = ties (reaches (looks human g s) (premium g s) b.maxp x);
              })

      seen : (a b : Bool) → (a && not b) ≡ false → T (b || not a)
      seen true true e = tt
      seen true false e = absurd (subst T e tt)
      seen false true e = tt
      seen false false e = tt

      unseen : (a b : Bool) → (a && not b) ≡ true → (b || not a) ≡ false
      unseen true true e = absurd (subst T (sym e) tt)
      unseen true false e = refl
      unseen false b e = absurd (subst T (sym e) tt)

      go : (m : Bool) → mine g x ≡ m → (q : Bool) → (human && not (opened s x)) ≡ q → Tied (ps ++ (x ∷ [])) (by m q (w.kept x))
      go true e q d = pass (ap (λ (m : Bool). not m && (opened s x || not human)) e)
      go false e true d = pass (ap₂ (λ m c. not m && c) e (unseen human (opened s x) d))
      go false e false d =
          let t : T (safe g x) = rw e tt in
          subst (λ (v : ℤ). Tied (ps ++ (x ∷ [])) (by false false v)) (sym (w.exact x h t)) (look (and_both (safe g x) (opened s x || not human) t (seen human (opened s x) d)))

  -- ---- the loop for the cells to fall back on

  unfoldable pub Fallen : List ℕ → Falls → Type 0
  Fallen ps b = Front (size g) (keep (closed_unit_cell g s) ps) b.fb_count b.maxpr

  pub fallen_one : Tidy g s → (ps : List ℕ) (x : ℕ) (b : Falls) → x < size g → length ps < size g → Fallen ps b → Fallen (ps ++ (x ∷ [])) (fallen st.cells b x)
  unfolding Fallen
  fallen_one f ps x b h l p =
      subst₂ (λ ls c. Front (size g) ls (by c).fb_count (by c).maxpr) (sym (keep_snoc (closed_unit_cell g s) ps x)) (sym (falls_unit human g s n st w f x h)) (go (closed_unit_cell g s x))
    where
      by : Bool → Falls
      by c = cond c (record { fb_count = b.fb_count + 1; maxpr = set b.maxpr b.fb_count x }) b

      go : (c : Bool) → Front (size g) (keep (closed_unit_cell g s) ps ++ cond c (x ∷ []) []) (by c).fb_count (by c).maxpr
      go true =
          front_more (size g) (keep (closed_unit_cell g s) ps) b.fb_count b.maxpr x
          (omega (arith, p.counted, length_keep (closed_unit_cell g s) ps, count_le (closed_unit_cell g s) ps)) p
      go false = front_same (size g) (keep (closed_unit_cell g s) ps) b.fb_count b.maxpr p

-- Moves made one after the other: none, one, two lists; and moves over cells in turn. Assumes nothing.
use Prim.Native.Nat.{ℕ, ◌+◌, suc}
use native.Mathlib.Omega.{arith}
use native.Mathlib.Nat.{add-zero}
use mathlib.Core.Path.{◌∙◌, ◌≡◌, ap, refl, subst, sym}
use mathlib.Core.List.{List, [], ◌++◌, ◌∷◌, map, map-append}
use lib.Dec.{T}
use lib.IntN.{ℤ}
use lib.ListN.{length, length-append, length-map, set}
use lib.Seq.{sets}
use Rattle.play.specs.Promises.{Revealing}
use Rattle.play.specs.declared.Opened.{Opened}
use Rattle.moves.specs.declared.State.{State}
use Rattle.area.specs.Stages.{Stands}
use Rattle.game.specs.Grid.{Grid, safe}
use Rattle.game.specs.Moves.{Move, after, cell_of, kind_of, left, play, word}
use Rattle.game.specs.Position.{Position, Tidy, closed_units}
use Rattle.moves.specs.Promises.{Carried, Made}
use Rattle.moves.specs.Walks.{Over}
use Rattle.game.proofs.Narrow.{after_append, play_left}
use Rattle.game.proofs.Members.{suc_across}

-- ---- what is written behind what was written

sets_append : (xs ys l : List ℕ) (i : ℕ) → sets (sets l i xs) (i + length xs) ys ≡ sets l i (xs ++ ys)
sets_append [] ys l i = ap (λ (k : ℕ). sets l k ys) (add-zero i)
sets_append (x ∷ xs) ys l i =
    ap (λ (k : ℕ). sets (sets (set l i x) (suc i) xs) k ys) (sym (suc_across i (length xs))) ∙ sets_append xs ys (set l i x) (suc i)

module _ (rows columns : ℕ) (g : Grid) (s : Position) (old : List ℤ) where
  pub made_none : (w : List ℤ) (list : List ℕ) (t : State) → Stands rows columns g s old w → Tidy g s → t.units ≡ closed_units g s
      → Made rows columns g s old [] list t w list t
  made_none w list t st f e = record { stands = st; tidy = f; noted = refl; clicks = omega arith; left_units = e }

  pub made_one : (m : Move) (opened : Opened) (list : List ℕ) (t : State) (w' : List ℤ) (list' : List ℕ) (t' : State) → Carried (kind_of m) (cell_of m) opened list t list' t'
      → Stands rows columns g (play g s m) old w' → Tidy g (play g s m) → opened.units + closed_units g (play g s m) ≡ closed_units g s → t.units ≡ closed_units g s
      → Made rows columns g s old (m ∷ []) list t w' list' t'
  made_one m opened list t w' list' t' c st f k e =
      record { stands = st; tidy = f; noted = c.written; clicks = c.one_more; left_units = omega (arith, c.fewer) }

  -- L on a safe cell is its reveal
  pub made_left : (i : ℕ) (opened : Opened) (list : List ℕ) (t : State) (w' : List ℤ) (list' : List ℕ) (t' : State) → T (safe g i) → Carried 1 i opened list t list' t'
      → Revealing rows columns g s old i opened w' → t.units ≡ closed_units g s → Made rows columns g s old (left i ∷ []) list t w' list' t'
  made_left i opened list t w' list' t' k c r e =
      let p = play_left g s i k in
      made_one (left i) opened list t w' list' t' c (rw p r.stands) (rw p r.tidy) (rw p r.taken_units) e

  pub made_both : (ms ns : List Move) (list : List ℕ) (t : State) (v : List ℤ) (l : List ℕ) (u : State) (w' : List ℤ) (list' : List ℕ) (t' : State)
      → Made rows columns g s old ms list t v l u → Made rows columns g (after g s ms) old ns l u w' list' t'
      → Made rows columns g s old (ms ++ ns) list t w' list' t'
  made_both ms ns list t v l u w' list' t' a b =
      let e = after_append g ms ns s in
      record {
        stands = rw e b.stands;
        tidy = rw e b.tidy;
        noted = b.noted ∙ ap (λ (k : ℕ). sets l k (map word ns)) (a.clicks ∙ ap (λ (k : ℕ). t.moves + k) (sym (length-map ms word)))
            ∙ ap (λ (x : List ℕ). sets x (t.moves + length (map word ms)) (map word ns)) a.noted
            ∙ sets_append (map word ms) (map word ns) list t.moves ∙ ap (sets list t.moves) (sym (map-append word ms ns));
        clicks = omega (arith, a.clicks, b.clicks, length-append ms ns);
        left_units = rw e b.left_units;
      }

-- ---- over cells in turn

module _ (many : Grid → Position → List ℕ → List Move) (rows columns : ℕ) where
  pub over_none : (w : List ℤ) (list : List ℕ) (t : State) → ((g : Grid) (s : Position) → many g s [] ≡ [])
      → Over many [] rows columns w list t w list t
  over_none w list t n =
      record { made = λ g s old st f e. subst (λ (ms : List Move). Made rows columns g s old ms list t w list t) (sym (n g s)) (made_none rows columns g s old w list t st f e) }

  pub over_both : (xs ys : List ℕ) (w : List ℤ) (list : List ℕ) (t : State) (v : List ℤ) (l : List ℕ) (u : State) (w' : List ℤ) (list' : List ℕ) (t' : State)
      → ((g : Grid) (s : Position) → many g s (xs ++ ys) ≡ many g s xs ++ many g (after g s (many g s xs)) ys)
      → Over many xs rows columns w list t v l u → Over many ys rows columns v l u w' list' t' → Over many (xs ++ ys) rows columns w list t w' list' t'
  over_both xs ys w list t v l u w' list' t' q h k = record { made = both }
    where
      both : (g : Grid) (s : Position) (old : List ℤ) → Stands rows columns g s old w → Tidy g s → t.units ≡ closed_units g s
          → Made rows columns g s old (many g s (xs ++ ys)) list t w' list' t'
      both g s old st f e =
          let a = h.made g s old st f e in
          let b = k.made g (after g s (many g s xs)) old a.stands a.tidy a.left_units in
          subst (λ (ms : List Move). Made rows columns g s old ms list t w' list' t') (sym (q g s))
          (made_both rows columns g s old (many g s xs) (many g (after g s (many g s xs)) ys) list t v l u w' list' t' a b)

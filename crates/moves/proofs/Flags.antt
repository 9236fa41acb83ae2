-- F on cells in turn: what is read of a cell says whether it is flagged, and no cell stands in a square twice. Assumes nothing.
use Prim.Native.Nat.{ℕ, ◌*◌, ◌<◌}
use native.Mathlib.Omega.{arith}
use mathlib.Core.Path.{◌∙◌, ◌≡◌, ap, refl, subst, sym}
use mathlib.Core.Bool.{Bool, ◌&&◌, false, not, true}
use mathlib.Core.List.{List, [], ◌++◌, ◌∷◌, map}
use lib.Dec.{T, T_not, eqb}
use lib.IntN.{ℤ}
use lib.ListN.{get_or, set}
use lib.Seq.{get_or-set_other}
use Rattle.area.specs.Squares.{square_of}
use Rattle.area.specs.Numbers.{content_at, state_at}
use Rattle.moves.specs.declared.State.{State}
use Rattle.area.specs.Stages.{Stands}
use Rattle.game.specs.Grid.{Grid, mine, square}
use Rattle.game.specs.Lists.{has, keep}
use Rattle.game.specs.Moves.{Move, after, flag, play}
use Rattle.game.specs.Position.{Position, Tidy, closed, closed_units, flagged, unflagged}
use Rattle.moves.specs.Promises.{Carried, Made}
use Rattle.moves.specs.Walks.{Over, flags_from}
use Rattle.game.proofs.Members.{keep_ext}
use Rattle.game.proofs.Counts.{Once}
use Rattle.game.proofs.Squares.{once_square}
use Rattle.game.proofs.Tidy.{flag_tidy}
use Rattle.game.proofs.Truth.{T→true, and_left, and_right, no→false}
use Rattle.game.proofs.Units.{units_flag}
use Rattle.play.proofs.Chords.{square-of}
use Rattle.play.proofs.Reveals.{inside, is-mine, is_safe, state_read}
use Rattle.moves.proofs.Joins.{made_none, made_one}
use borrow.Author.Tests.{eq-eqb, ne_eqb}

-- ---- cells in turn

abbrev FlagsFrom : Grid → Position → ℕ → List ℕ → Bool → List Move
FlagsFrom g s x xs b = elim b [ true ↦ flag x ∷ flags_from g (play g s (flag x)) xs | false ↦ flags_from g s xs ]

pub flags_append : (g : Grid) (xs ys : List ℕ) (s : Position) → flags_from g s (xs ++ ys) ≡ flags_from g s xs ++ flags_from g (after g s (flags_from g s xs)) ys
flags_append g [] ys s = refl
flags_append g (x ∷ xs) ys s = go (unflagged g s x) (flags_append g xs ys (play g s (flag x))) (flags_append g xs ys s)
  where
    go : (b : Bool)
        → flags_from g (play g s (flag x)) (xs ++ ys) ≡ flags_from g (play g s (flag x)) xs ++ flags_from g (after g (play g s (flag x)) (flags_from g (play g s (flag x)) xs)) ys
        → flags_from g s (xs ++ ys) ≡ flags_from g s xs ++ flags_from g (after g s (flags_from g s xs)) ys
        → FlagsFrom g s x (xs ++ ys) b ≡ FlagsFrom g s x xs b ++ flags_from g (after g s (FlagsFrom g s x xs b)) ys
    go true hit miss = ap (λ (ms : List Move). flag x ∷ ms) hit
    go false hit miss = miss

-- where no cell stands twice, each is flagged as it was at first
flags_once : (g : Grid) (xs : List ℕ) (s : Position) → Once xs → flags_from g s xs ≡ map flag (keep (unflagged g s) xs)
unfolding play
flags_once g [] s o = refl
flags_once g (x ∷ xs) s o = go (unflagged g s x) (flags_once g xs (set s x 2) o.1) (flags_once g xs s o.1)
  where
    others : (y : ℕ) → T (has y xs) → unflagged g (set s x 2) y ≡ unflagged g s y
    others y t =
        ap (λ (k : ℕ). mine g y && not (eqb k 2)) (get_or-set_other s x y 2 0 (λ e. o.0 (rw (← e) t)))

    go : (b : Bool) → flags_from g (set s x 2) xs ≡ map flag (keep (unflagged g (set s x 2)) xs) → flags_from g s xs ≡ map flag (keep (unflagged g s) xs)
        → FlagsFrom g s x xs b ≡ map flag (elim b [ true ↦ x ∷ keep (unflagged g s) xs | false ↦ keep (unflagged g s) xs ])
    go true hit miss =
        ap (λ (ms : List Move). flag x ∷ ms) (hit ∙ ap (map flag) (keep_ext (unflagged g (set s x 2)) (unflagged g s) xs others))
    go false hit miss = miss

-- ---- one cell

module _ (rows columns : ℕ) (w : List ℤ) (list : List ℕ) (t : State) (i : ℕ) (h : i < rows * columns) where
  -- nothing to flag
  unflagged_not : ((g : Grid) (s : Position) (old : List ℤ) → Stands rows columns g s old w → unflagged g s i ≡ false) → Over flags_from (i ∷ []) rows columns w list t w list t
  unflagged_not n =
      record {
        made = λ g s old st f e. subst (λ (ms : List Move). Made rows columns g s old ms list t w list t) (sym (ap (FlagsFrom g s i []) (n g s old st)))
            (made_none rows columns g s old w list t st f e);
      }

  pub flag_safe : (k : ℕ) → k ≡ content_at w i → (k ≡ 0 → ⊥) → Over flags_from (i ∷ []) rows columns w list t w list t
  flag_safe k e n =
      unflagged_not (λ g s old st. no→false (unflagged g s i) (λ u. T_not (mine g i) (is_safe rows columns g s old w i h st k e n) (and_left (mine g i) (not (flagged s i)) u)))

  pub flag_there : (k : ℕ) → k ≡ state_at w i → k ≡ 2 → Over flags_from (i ∷ []) rows columns w list t w list t
  flag_there k e q =
      unflagged_not (λ g s old st. no→false (unflagged g s i) (λ u. T_not (flagged s i) (and_right (mine g i) (not (flagged s i)) u)
      (rw (eq-eqb (get_or s i 0) 2 (sym (state_read rows columns g s old w i h st k e) ∙ q)) tt)))

  -- a mine without flag
  pub flag_noted : (k m : ℕ) (w' : List ℤ) (list' : List ℕ) (t' : State) → k ≡ content_at w i → k ≡ 0 → m ≡ state_at w i → (m ≡ 2 → ⊥)
      → ((g : Grid) (s : Position) (old : List ℤ) → Stands rows columns g s old w → T (mine g i) → T (closed s i) → Stands rows columns g (play g s (flag i)) old w')
      → Carried 2 i (record { units = 0 }) list t list' t' → Over flags_from (i ∷ []) rows columns w list t w' list' t'
  unfolding play
  flag_noted k m w' list' t' ek zk em nm q n = record { made = on }
    where
      on : (g : Grid) (s : Position) (old : List ℤ) → Stands rows columns g s old w → Tidy g s → t.units ≡ closed_units g s
          → Made rows columns g s old (flags_from g s (i ∷ [])) list t w' list' t'
      on g s old st f e =
          let a = is-mine rows columns g s old w i h st k ek zk in
          let ins = inside rows columns g s old w i h st in
          let no : flagged s i ≡ false = ne_eqb (get_or s i 0) 2 (λ z. nm (state_read rows columns g s old w i h st m em ∙ z)) in
          let b : T (closed s i) = shut (closed s i) (sym no ∙ f.mines i ins a) in
          let c : unflagged g s i ≡ true = rw (T→true (mine g i) a, no) in
          subst (λ (ms : List Move). Made rows columns g s old ms list t w' list' t') (sym (ap (FlagsFrom g s i []) c))
          (made_one rows columns g s old (flag i) (record { units = 0 }) list t w' list' t' n (q g s old st a b) (flag_tidy g s i ins a f)
          (omega (arith, units_flag g s i a)) e)
        where
          shut : (x : Bool) → false ≡ not x → T x
          shut true z = tt
          shut false z = subst T (sym z) tt

-- ---- the square
pub flags-square : (rows columns : ℕ) (w : List ℤ) (list : List ℕ) (t : State) (i : ℕ) (w' : List ℤ) (list' : List ℕ) (t' : State)
    → Over flags_from (square_of rows columns i) rows columns w list t w' list' t'
    → (g : Grid) (s : Position) (old : List ℤ) → Stands rows columns g s old w → Tidy g s → t.units ≡ closed_units g s
    → Made rows columns g s old (map flag (keep (unflagged g s) (square g i))) list t w' list' t'
flags-square rows columns w list t i w' list' t' h g s old st f e =
    subst (λ (ms : List Move). Made rows columns g s old ms list t w' list' t')
    (ap (flags_from g s) (square-of rows columns g i st.rows_are st.columns_are) ∙ flags_once g (square g i) s (once_square g i)) (h.made g s old st f e)

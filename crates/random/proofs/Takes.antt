-- A step at a drawn cell: the draw is among the cells of the choice, and the cell at the drawn place may be taken. Assumes nothing.
use Rattle.moves.specs.declared.State.{State}
use Rattle.random.specs.declared.Onward.{Onward}
use Rattle.supplies.specs.declared.Supply.{Supply}
use Rattle.supplies.specs.declared.Dealt.{Dealt}
use Rattle.std.specs.Prelude as Code
use Rattle.std.specs.Prelude.{None, Some}
use Prim.Native.Nat.{ℕ, ◌*◌, ◌<◌, ◌≤◌}
use native.Mathlib.Omega.{arith}
use native.Mathlib.Decide.{dec_lt}
use native.Mathlib.Nat.{mul-le-mul_left}
use mathlib.Core.Path.{◌∙◌, ◌≡◌, ap, refl, subst, sym}
use mathlib.Core.Bool.{Bool, cond, false}
use mathlib.Core.List.{List, [], ◌∷◌}
use mathlib.Core.Option.{Option, none, some}
use lib.Dec.{T, ltb, ltb→lt, lt→ltb, nltb→le}
use lib.IntN.{ℤ}
use lib.ListN.{get_or-eq_default, get_or, length}
use Rattle.area.specs.Stages.{Shape}
use Rattle.ties.specs.Candidates.{candidate_at, candidates_of, for_click}
use Rattle.choices.specs.Tops.{TopsKnown, UnitsKnown}
use Rattle.supplies.specs.Origins.{Dealing, DrawGrows, GrownBy, Origin, Reads}
use Rattle.game.specs.Draws.{Drawn, Places, Source}
use Rattle.game.specs.Grid.{Grid, safe, zero_cell}
use Rattle.game.specs.Lists.{count, has, keep, range}
use Rattle.game.specs.Moves.{Move, left}
use Rattle.game.specs.Position.{Position, Tidy, closed, closed_units}
use Rattle.game.specs.Rounds.{Choice, choice, chords, clicks, moves_at, step_of, top_cells, unit_cells, width}
use Rattle.random.specs.Promises.{StepGrows, Stepping, Tells, taken_moves}
use Rattle.moves.specs.Promises.{Made}
use Rattle.rounds.specs.Promises.{MadeKnown}
use Rattle.game.proofs.Choices.{Top, looked→, never_stuck, premium_pays, top→, unit→}
use Rattle.game.proofs.Counts.{length_keep}
use Rattle.game.proofs.Legal.{zero_poor}
use Rattle.game.proofs.Members.{get_d_has, has_range, keep_has}
use Rattle.game.proofs.Rounds.{safe_left}
use Rattle.game.proofs.Truth.{T→true, no→false}

-- ---- the moves by the highest raised premium

pub click_taken : (g : Grid) (s : Position) (top i : ℕ) → top < 10 → left i ∷ [] ≡ taken_moves g s top i
click_taken g s top i h = ap (λ (b : Bool). cond b (left i ∷ []) (moves_at g s i)) (sym (T→true (ltb top 10) (lt→ltb top 10 h)))

pub act_taken : (g : Grid) (s : Position) (top i : ℕ) → 10 ≤ top → moves_at g s i ≡ taken_moves g s top i
act_taken g s top i h =
    ap (λ (b : Bool). cond b (left i ∷ []) (moves_at g s i)) (sym (no→false (ltb top 10) (λ t. absurd (omega (arith, ltb→lt top 10 t)))))

-- ---- the cell at a place

-- it lies on the grid, also where nothing is at that place
pub picked_inside : (rows columns : ℕ) (f : ℕ → Bool) (k i : ℕ) → Shape rows columns → i ≡ get_or (keep f (range 0 (rows * columns))) k 0 → i < rows * columns
picked_inside rows columns f k i h e =
    elim (dec_lt k (length (keep f (range 0 (rows * columns))))) [
      | yes l ↦ rw e (has_range 0 (rows * columns) _ (keep_has f _ (range 0 (rows * columns)) (get_d_has (keep f (range 0 (rows * columns))) k l)).0).1
      | no l ↦ let z : get_or (keep f (range 0 (rows * columns))) k 0 ≡ 0 = get_or-eq_default (keep f (range 0 (rows * columns))) 0 (omega arith) in
          omega (arith, h.some_rows, mul-le-mul_left rows h.some_columns)
    ]

-- what the moves at a cell ask for, and that they are a step's
record Takes (g : Grid) (s : Position) (top i : ℕ) (ms : List Move) : Type 0 where
  is_safe : T (safe g i)
  shut : top < 10 → T (closed s i) × (top_cells false g s ≡ [])
  no_zero : 10 ≤ top → T (zero_cell g i) → ⊥
  same : taken_moves g s top i ≡ ms

takes : (g : Grid) (s : Position) (top i k : ℕ) → Tidy g s → k < width (choice false g s) → ltb top 10 ≡ for_click (choice false g s) → i ≡ get_or (candidates_of (choice false g s)) k 0
    → Takes g s top i (step_of g s (choice false g s) k).moves
unfolding choice
takes g s top i k tidy = go (top_cells false g s) refl (top→ false g s)
  where
    choose : List ℕ → Choice
    choose ts = elim ts [ [] ↦ clicks (unit_cells g s) | x ∷ xs ↦ chords (x ∷ xs) ]

    go : (ts : List ℕ) → top_cells false g s ≡ ts → ((x : ℕ) → T (has x ts) → Top false g s x) → k < width (choose ts) → ltb top 10 ≡ for_click (choose ts) → i ≡ get_or (candidates_of (choose ts)) k 0
        → Takes g s top i (step_of g s (choose ts) k).moves
    go [] z f l e q =
        let h : top < 10 = ltb→lt top 10 (rw e tt) in
        let u = unit→ g s i (rw q (get_d_has (unit_cells g s) k l)) in
        record {
          is_safe = u.is_safe;
          shut = λ a. (u.is_closed, z);
          no_zero = λ a z. absurd (omega arith);
          same = sym (click_taken g s top i h) ∙ ap (λ (j : ℕ). left j ∷ []) q;
        }
    go (x ∷ xs) z f l e q =
        let n : 10 ≤ top = nltb→le top 10 (rw e tt) in
        let v = f i (subst (λ (j : ℕ). T (has j (x ∷ xs))) (sym q) (get_d_has (x ∷ xs) k l)) in
        let a = looked→ false g s i v.is_looked in
        record {
          is_safe = a.1;
          shut = λ h. absurd (omega arith);
          no_zero = λ h z.
              let c = premium_pays g s i v.reaches in
              let p = zero_poor g s i tidy (record { inside = a.0; none = z }) in
              absurd (omega arith);
          same = sym (act_taken g s top i n) ∙ ap (moves_at g s) q;
        }

-- ---- one step

-- the closed units kept are right, whatever else is marked
pub any_marks : (w : List ℤ) (rows columns : ℕ) (marks units : List ℕ) → UnitsKnown w rows columns units units → UnitsKnown w rows columns marks units
any_marks w rows columns marks units k = record { room = k.room; right = λ c h _ n. k.right c h n n }

module _ (g : Grid) (s : Position) (w : List ℤ) (cells top : ℕ) (tells : Tells g s w cells top) where
  -- as many cells are counted as the choice is among
  pub wide : (n : ℕ) → n ≡ count (candidate_at top w) (range 0 cells) → n ≡ width (choice false g s)
  wide n e = e ∙ sym (length_keep (candidate_at top w) (range 0 cells)) ∙ ap (λ (xs : List ℕ). length xs) tells.candidates ∙ of (choice false g s)
    where
      of : (c : Choice) → length (candidates_of c) ≡ width c
      of (chords is) = refl
      of (clicks is) = refl

  -- the moves at the cell of a place are those of the step that takes the place
  pub took : (rows columns : ℕ) (old : List ℤ) (list : List ℕ) (t : State) (p i : ℕ) (tops units : List ℕ) (w' : List ℤ) (list' tops' : List ℕ) (r : State) → Tidy g s → p < width (choice false g s)
      → i ≡ get_or (keep (candidate_at top w) (range 0 cells)) p 0 → TopsKnown false w rows columns tops → UnitsKnown w rows columns units units
      → (T (safe g i) → (top < 10 → T (closed s i) × (top_cells false g s ≡ [])) → (10 ≤ top → T (zero_cell g i) → ⊥)
      → MadeKnown false rows columns g s old (taken_moves g s top i) list w tops t w' list' tops' r)
      → Made rows columns g s old (step_of g s (choice false g s) p).moves list t w' list' r × TopsKnown false w' rows columns tops' × UnitsKnown w' rows columns tops' units
  took rows columns old list t p i tops units w' list' tops' r f l q kept units_kept made =
      let a = takes g s top i p f l tells.one_click (q ∙ ap (λ (xs : List ℕ). get_or xs p 0) tells.candidates) in
      let b = made a.is_safe a.shut a.no_zero in
      (subst (λ (ms : List Move). Made rows columns g s old ms list t w' list' r) a.same b.made, b.kept kept, b.units_kept units units_kept)

-- what a step comes to, by what a supply dealt among as many as the choice is among
module _ (rows columns : ℕ) (g : Grid) (s : Position) (old w : List ℤ) (origin : Origin) (source : Source) (at n : ℕ) (list : List ℕ) (t : State) (r : Code.Option Dealt)
    (wide : n ≡ width (choice false g s)) (dealt : Dealing origin (source at n) r) where
  dealt_so : Dealing origin (source at (width (choice false g s))) r
  dealt_so = subst (λ (k : ℕ). Dealing origin (source at k) r) wide dealt

  pub step_dry : r ≡ None → Stepping rows columns g s old origin (source at (width (choice false g s))) list t w w list None
  step_dry e = go (source at (width (choice false g s))) dealt_so
    where
      go : (o : Option Drawn) → Dealing origin o r → Stepping rows columns g s old origin o list t w w list None
      go none q = record { answer = refl; same-work = refl; same-list = refl }
      go (some d) q = let z : ◌≡◌ {A = ℕ} 0 1 = cc (q.answer, e) in absurd (omega arith)

  module _ (dealt' : Dealt) (e : r ≡ Some dealt') where
    drew : (d : Drawn) × (source at (width (choice false g s)) ≡ some d) × (d.place ≡ dealt'.place) × Reads origin d.next dealt'.supply
    drew = go (source at (width (choice false g s))) refl dealt_so
      where
        go : (o : Option Drawn) → source at (width (choice false g s)) ≡ o → Dealing origin o r → (d : Drawn) × (source at (width (choice false g s)) ≡ some d) × (d.place ≡ dealt'.place) × Reads origin d.next dealt'.supply
        go none f q = let z : ◌≡◌ {A = ℕ} 0 1 = cc (q, e) in absurd (omega arith)
        go (some d) f q =
            let z : record { place = d.place; supply = q.supply } ≡ dealt' = cc (q.answer, e) in
            (d, f, ap (λ (x : Dealt). x.place) z, subst (λ (x : Dealt). Reads origin d.next x.supply) z q.reads)

    pub drawn_inside : Places source → Tidy g s → 1 ≤ closed_units g s → dealt'.place < width (choice false g s)
    drawn_inside c f h = rw (← drew.2) (c.inside at (width (choice false g s)) drew.0 (never_stuck false g s f (safe_left g s f h)) drew.1)

    pub step_went : (w' : List ℤ) (list' : List ℕ) (t' : State) → Made rows columns g s old (step_of g s (choice false g s) dealt'.place).moves list t w' list' t'
        → Stepping rows columns g s old origin (source at (width (choice false g s))) list t w w' list' (Some (record { state = t'; supply = dealt'.supply }))
    step_went w' list' t' m =
        subst (λ (o : Option Drawn). Stepping rows columns g s old origin o list t w w' list' (Some (record { state = t'; supply = dealt'.supply }))) (sym drew.1)
        (record {
          state = t';
          supply = dealt'.supply;
          answer = refl;
          reads = drew.3;
          made = subst (λ (k : ℕ). Made rows columns g s old (step_of g s (choice false g s) k).moves list t w' list' t') (sym drew.2) m;
        })

-- a step that went uses as much of a key as its draw
pub went_grows : (s : Supply) (r : Code.Option Dealt) (dealt : Dealt) (t : State) → DrawGrows s r → r ≡ Some dealt → StepGrows s (Some (record { state = t; supply = dealt.supply }))
went_grows s r dealt t d e =
    record { went = λ o f. let q : record { state = t; supply = dealt.supply } ≡ o = cc f in subst (λ (x : Onward). GrownBy 256 s x.supply) q (d.took dealt e) }

-- Cells looked at one after the other: with what is found below a cell, so many units lack as lacked before the first. Assumes nothing.
use Prim.Native.Nat.{ℕ, ◌*◌, ◌+◌, ◌-◌, ◌<◌, ◌≤◌}
use native.Mathlib.Omega.{arith}
use native.Mathlib.Decide.{dec_lt, ℕ_discrete}
use native.Mathlib.Nat.{add-div_right}
use mathlib.Core.Path.{◌∙◌, ◌≡◌, ap, refl, subst, sym}
use mathlib.Core.Logic.{inl, inr, ⊎_elim}
use mathlib.Core.Bool.{Bool, false, not, true}
use mathlib.Core.List.{List}
use lib.Dec.{T}
use lib.IntN.{ℤ}
use Rattle.area.specs.Numbers.{HasCells, content_at}
use Rattle.area.specs.Squares.{square_of}
use Rattle.area.specs.Stages.{loaded_five}
use Rattle.area.proofs.Rows.{column_inside, narrow_square, row_inside}
use Rattle.game.specs.Area.{laid}
use Rattle.game.specs.Early.{certain, found, met}
use Rattle.game.specs.Grid.{Grid, size, square, zero_cell}
use Rattle.game.specs.Lists.{bit, has, some_of}
use Rattle.game.specs.Openings.{unlabelled}
use Rattle.game.proofs.Early.{found_next, found_none, lacks_some, meets}
use Rattle.game.proofs.Reveal.{zero_labelled}
use Rattle.game.proofs.Truth.{and_left, no→false}
use Rattle.labels.specs.Labels.{fresh_of, shaped}
use Rattle.labels.proofs.Frees.{fresh_test, fresh_yes?}
use Rattle.openings.specs.Numbering.{Begun, Contained, Numbered, part_five}
use Rattle.openings.proofs.Exact.{narrow_size}
use Rattle.openings.proofs.Numbers.{MayLabel, contained_before, numbered_more, numbered_none, past_stays}
use Rattle.early.specs.Looks.{LooksAt, lone_at}
use Rattle.early.specs.Walks.{Beyond, Counting, Wide}
use Rattle.early.specs.declared.looks.Tally.{Tally}
use Rattle.early.proofs.Lones.{fresh_meets, lone_unlabelled}
use Rattle.early.proofs.Unchanged.{beyond_same}

-- ---- what a look does to the work area

module _ (rows columns : ℕ) (w : List ℤ) (t : Tally) (i : ℕ) (t' : Tally) (w' : List ℤ) (q : LooksAt rows columns w t i t' w') where
  looks_label : MayLabel (shaped rows columns) t.openings i w w'
  looks_label = go (fresh_of w i) refl
    where
      go : (b : Bool) → fresh_of w i ≡ b → MayLabel (shaped rows columns) t.openings i w w'
      go true e =
          let m = q.opening (rw e tt) in
          elim (ℕ_discrete t'.lacking 0) [ yes z ↦ inr (m.last z).1 | no n ↦ inl (m.labels n).1 ]
      go false e = inr (q.other (λ f. subst T e f)).2

  -- while units lack, the opening that begins there is labelled
  looks_begin : 1 ≤ t'.lacking → Begun (shaped rows columns) (content_at w) t.openings i w t'.openings w'
  looks_begin some = go (fresh_of w i) refl
    where
      go : (b : Bool) → fresh_of w i ≡ b → Begun (shaped rows columns) (content_at w) t.openings i w t'.openings w'
      go true e =
          let f = fresh_yes? w i (rw e tt) in
          let m = (q.opening (rw e tt)).labels (λ z. omega arith) in
          record { fresh = λ a b. m; none = λ n. absurd (n f.0 f.1); few = omega (arith, m.0); long = q.long }
      go false e =
          let o = q.other (λ f. subst T e f) in
          record { fresh = λ a b. absurd (subst T (sym (fresh_test w i a b) ∙ e) tt); none = λ n. (o.1, o.2); few = omega (arith, o.1); long = q.long }

-- ---- what it finds

-- a cell that is not in the last of the columns, unless they are all, has its square there
wide_square : (g : Grid) (columns limit i : ℕ) → Wide g columns limit → i < limit → i < g.rows * columns → square_of g.rows columns i ≡ square g i
wide_square g columns limit i d h k =
    narrow_square g columns i
    (⊎_elim inl
    (λ n. inr (n.0, omega (arith, column_inside g.rows columns (i + g.rows) (omega (arith, n.1)), add-div_right i {k = g.rows} (omega (arith, row_inside g.rows columns i k))))) d)

-- as many units less lack as are found at the cell
look_finds : (g : Grid) (columns i : ℕ) (old w w' : List ℤ) (t t' : Tally) → w ≡ laid (part_five g (met g i)) (g.rows * columns) old
    → i < g.rows * columns → g.rows * columns ≤ size g → square_of g.rows columns i ≡ square g i
    → LooksAt g.rows columns w t i t' w' → found g (i + 1) + t'.lacking ≡ found g i + t.lacking
look_finds g columns i old w w' t t' is h few s q = go (fresh_of w i) refl
  where
    meets_is : fresh_of w i ≡ meets g i
    meets_is = fresh_meets g columns i old w is h few s

    go : (b : Bool) → fresh_of w i ≡ b → found g (i + 1) + t'.lacking ≡ found g i + t.lacking
    go true e =
        let m : meets g i ≡ true = sym meets_is ∙ e in
        let u : unlabelled g i ≡ false = no→false (unlabelled g i)
        (zero_labelled g i (record { inside = omega arith; none = and_left (zero_cell g i) (not (some_of (has i) (met g i))) (rw m tt) })) in
        omega (arith, found_next g i, ap bit m, ap bit u, (q.opening (rw e tt)).one_less)
    go false e =
        let m : meets g i ≡ false = sym meets_is ∙ e in
        let u : lone_at g.rows columns w i ≡ unlabelled g i = lone_unlabelled g columns i old w is h few s in
        omega (arith, found_next g i, ap bit m, ap bit u, (q.other (λ f. subst T e f)).0)

-- ---- the cells below i

pub record Looked (rows columns cells limit units : ℕ) (w₀ : List ℤ) (i : ℕ) (t : Tally) (w : List ℤ) : Type 0 where
  pub inside : i ≤ limit
  pub beyond : Beyond (rows * columns) w₀ w
  pub labels : 1 ≤ t.lacking → Numbered rows columns w₀ i t.openings w
  pub tells : (g : Grid) (old : List ℤ) → g.rows ≡ rows → size g ≡ cells → Wide g columns limit → HasCells old (rows * columns)
      → w₀ ≡ laid (loaded_five g) (rows * columns) old → Contained g columns w → Counting g units i t.lacking

pub nothing_counted : (g : Grid) (units : ℕ) → Counting g units 0 units
nothing_counted g units = record { counts = omega (arith, found_none g); open_before = λ j h t. omega arith }

-- one cell more: units lack, and not more than there are cells ahead
counting_more : (g : Grid) (units i n n' : ℕ) → Counting g units i n → 1 ≤ n → n ≤ size g - i → found g (i + 1) + n' ≡ found g i + n → Counting g units (i + 1) n'
counting_more g units i n n' c some few e =
    record {
      counts = e ∙ c.counts;
      open_before = λ j h t. elim (dec_lt j i) [
        | yes k ↦ c.open_before j k t
        | no k ↦ let same : j ≡ i = omega arith in lacks_some g units i n c.counts some few (subst (λ (m : ℕ). T (certain g units m)) same t)
      ];
    }

look_counts : (g : Grid) (columns limit units i : ℕ) (old w w' : List ℤ) (t t' : Tally) → limit ≤ g.rows * columns → i < limit → 1 ≤ t.lacking → t.lacking ≤ size g - i
    → Wide g columns limit → LooksAt g.rows columns w t i t' w' → Contained g columns w'
    → (Contained g columns w → (w ≡ laid (part_five g (met g i)) (g.rows * columns) old) × Counting g units i t.lacking) → Counting g units (i + 1) t'.lacking
look_counts g columns limit units i old w w' t t' room h some few d q c p =
    let b = p (contained_before g columns t.openings i w w' (looks_label g.rows columns w t i t' w' q) c) in
    counting_more g units i t.lacking t'.lacking b.1 some few
    (look_finds g columns i old w w' t t' b.0 (omega arith) (narrow_size g columns w' c) (wide_square g columns limit i d h (omega arith)) q)

module _ (rows columns cells limit units : ℕ) (w₀ : List ℤ) where
  pub looked_none : Looked rows columns cells limit units w₀ 0 (record { openings = 0; lacking = units }) w₀
  looked_none =
      record {
        inside = omega arith;
        beyond = beyond_same (rows * columns) w₀;
        labels = λ h. numbered_none rows columns w₀;
        tells = λ g old er es d room is c. nothing_counted g units;
      }

  module _ (i : ℕ) (t : Tally) (w : List ℤ) (l : Looked rows columns cells limit units w₀ i t w) where
    pub looked_more : (t' : Tally) (w' : List ℤ) → limit ≤ rows * columns → i < limit → 1 ≤ t.lacking → t.lacking ≤ cells - i → LooksAt rows columns w t i t' w'
        → Looked rows columns cells limit units w₀ (i + 1) t' w'
    looked_more t' w' room h some few q =
        record {
          inside = omega arith;
          beyond = record {
            long = q.long ∙ l.beyond.long;
            past = λ x k. past_stays (shaped rows columns) t.openings i w w' (looks_label rows columns w t i t' w' q) x k ∙ l.beyond.past x k;
          };
          labels = λ k. numbered_more rows columns w₀ i t.openings t'.openings w w' (l.labels some) (omega arith) (looks_begin rows columns w t i t' w' q k);
          tells = λ g old er es d cells-there is c.
              look_counts g columns limit units i old w w' t t' (rw er room) h some (omega (arith, es)) d (rw er q) c
              (λ s. (rw (← er) at ((l.labels some).parts g old er cells-there is s).1, l.tells g old er es d cells-there is s));
        }

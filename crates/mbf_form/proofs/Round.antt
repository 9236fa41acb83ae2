-- Reading after writing, at the level of the calls: a call that is given no refusal comes to what it reads or writes. Assumes nothing.
use Prim.Native.Nat.{ℕ, ◌*◌, ◌-◌, ◌<◌, ◌≤◌}
use native.Mathlib.Omega.{arith}
use mathlib.Core.Path.{◌≡◌, ap, refl, subst, sym, ◌∙◌}
use mathlib.Core.Bool.{Bool}
use mathlib.Core.List.{List, [], ◌∷◌, ◌++◌, map}
use mathlib.Core.Option.{Option, none, some}
use lib.Dec.{ltb}
use lib.IntN.{ℤ}
use lib.ListN.{get_or, length, take}
use lib.Seq.{take_at}
use borrow.Author.Tests.{le-ltb, lt-ltb}
use Rattle.game.specs.Area.{begun}
use Rattle.game.specs.Boards.{Line, twelve}
use Rattle.game.specs.Calls.{Answer, Refusal, board, board_checks, file_wrong, first_given, gives, refuses, shape_check}
use Rattle.game.specs.Grid.{Grid, canonical, mine, size}
use Rattle.game.specs.Lists.{has}
use Rattle.game.proofs.Alike.{SameCalls}
use Rattle.game.proofs.Canonical.{canonical_calls}
use Rattle.game.proofs.Checks.{each_fails, first_decides, none_given, others_decide}
use Rattle.lines.specs.BoardLine.{GridOutcome, cells_check, unless_refused}
use Rattle.lines.specs.Outputs.{RunOutcome, unless_given}
use Rattle.lines.proofs.LineRead.{no_refusal}
use Rattle.mbf_form.specs.Form.{file_columns, file_grid, file_of, file_rows, listed_grid, mine_places}
use Rattle.mbf_form.specs.Calls.{file_refusal, mine_checks, output_check, read_file_call, side_checks, write_file_call}
use Rattle.mbf_form.proofs.Written.{canonical_file, canonical_passes, written_accepted, written_grid}
use Rattle.mbf_form.proofs.Order.{any_order}

-- ---- a file read

-- what a file that is read comes to
abbrev file_read : List ℕ → List ℤ → GridOutcome
file_read file lent = record { answer = gives (file_rows file ∷ file_columns file ∷ []); values = begun (file_grid file).values lent }

-- a file that passes is read, unless the lent run is too short
read_passed : (file : List ℕ) (lent : List ℤ) → file_refusal file ≡ none
    → read_file_call file lent ≡ unless_refused (first_given (cells_check (listed_grid file) lent ∷ [])) lent (file_read file lent)
unfolding read_file_call file_refusal
read_passed file lent e =
    ap (λ (o : Option Refusal). unless_refused o lent (file_read file lent)) (others_decide (side_checks file ++ mine_checks file) (cells_check (listed_grid file) lent ∷ []) e)

read_whole : (file : List ℕ) (lent : List ℤ) → file_refusal file ≡ none → size (listed_grid file) ≤ length lent → read_file_call file lent ≡ file_read file lent
read_whole file lent e h =
    read_passed file lent e
    ∙ ap (λ (o : Option Refusal). unless_refused o lent (file_read file lent)) (none_given (cells_check (listed_grid file) lent ∷ []) (le-ltb (length lent) (size (listed_grid file)) h, tt))

-- ---- refusals

-- a file that is refused is refused before the room is asked for, and leaves the lent run as it is
pub refused_read : (file : List ℕ) (lent : List ℤ) (f : Refusal) → file_refusal file ≡ some f → read_file_call file lent ≡ record { answer = refuses f; values = lent }
unfolding read_file_call file_refusal
refused_read file lent f e =
    ap (λ (o : Option Refusal). unless_refused o lent (file_read file lent)) (first_decides (side_checks file ++ mine_checks file) (cells_check (listed_grid file) lent ∷ []) f e)

-- under two bytes are FILE, whatever they are
pub short_refused : (file : List ℕ) → length file < 2 → file_refusal file ≡ some file_wrong
unfolding file_refusal
short_refused file h = ap (λ (b : Bool). first_given (record { given = b; refusal = file_wrong } ∷ shape_check (listed_grid file) ∷ mine_checks file)) (lt-ltb (length file) 2 h)

-- a run that is too short for an accepted file is BOARD, and stays as it is
pub room_refused : (file : List ℕ) (lent : List ℤ) → file_refusal file ≡ none → length lent < size (listed_grid file) → read_file_call file lent ≡ record { answer = refuses board; values = lent }
room_refused file lent e h =
    read_passed file lent e
    ∙ ap (λ (b : Bool). unless_refused (first_given (record { given = b; refusal = board } ∷ [])) lent (file_read file lent)) (lt-ltb (length lent) (size (listed_grid file)) h)

-- a grid that is refused leaves the output as it is
pub refused_write : (g : Grid) (out : List ℕ) (f : Refusal) → first_given (board_checks g ++ output_check g out ∷ []) ≡ some f → write_file_call g out ≡ record { answer = refuses f; run = out }
unfolding write_file_call
refused_write g out f e = ap (λ (o : Option Refusal). unless_given o out (record { answer = gives (length (file_of g) ∷ []); run = begun (file_of g) out })) e

-- ---- a grid written

-- what a grid that is written comes to
abbrev grid_written : Grid → List ℕ → RunOutcome
grid_written g out = record { answer = gives (length (file_of g) ∷ []); run = begun (file_of g) out }

-- a grid that passes is written, where the output has room
pub write_whole : (g : Grid) (out : List ℕ) → first_given (board_checks g) ≡ none → length (file_of g) ≤ length out → write_file_call g out ≡ grid_written g out
unfolding write_file_call
write_whole g out e h =
    ap (λ (o : Option Refusal). unless_given o out (grid_written g out))
    (others_decide (board_checks g) (output_check g out ∷ []) e ∙ none_given (output_check g out ∷ []) (le-ltb (length out) (length (file_of g)) h, tt))

-- what a call says that wrote n bytes
record Wrote (g : Grid) (out : List ℕ) (n : ℕ) : Type 0 where
  passes : first_given (board_checks g) ≡ none
  counted : length (file_of g) ≡ n
  wrote : take n (write_file_call g out).run ≡ file_of g

wrote_file : (g : Grid) (out : List ℕ) (n : ℕ) → (write_file_call g out).answer ≡ gives (n ∷ []) → Wrote g out n
unfolding write_file_call
wrote_file g out n = go (first_given (board_checks g ++ output_check g out ∷ [])) refl
  where
    go : (o : Option Refusal) → first_given (board_checks g ++ output_check g out ∷ []) ≡ o → (unless_given o out (grid_written g out)).answer ≡ gives (n ∷ []) → Wrote g out n
    go (some f) e q = absurd (no_refusal f n [] q)
    go none e q =
        let h = each_fails (board_checks g ++ output_check g out ∷ []) e in
        let l : length (file_of g) ≡ n = ap (λ (a : Answer). get_or a.values 0 0) q in
        record {
          passes = none_given (board_checks g) (h.0, (h.1.0, tt));
          counted = l;
          wrote = ap (λ (o : Option Refusal). take n (unless_given o out (grid_written g out)).run) e ∙ take_at (file_of g) _ n l;
        }

-- ---- both

-- what was written reads as the canonical grid, in any lent run that has room
pub write_read : (g : Grid) (out : List ℕ) (lent : List ℤ) (n : ℕ) → (write_file_call g out).answer ≡ gives (n ∷ []) → size g ≤ length lent
    → read_file_call (take n (write_file_call g out).run) lent ≡ record { answer = gives (g.rows ∷ g.columns ∷ []); values = begun (canonical g).values lent }
unfolding file_of
write_read g out lent n e h =
    let w = wrote_file g out n e in
    ap (λ (file : List ℕ). read_file_call file lent) w.wrote
    ∙ read_whole (file_of g) lent (written_accepted g w.passes) h
    ∙ ap (λ (r : Grid). record { answer = gives (g.rows ∷ g.columns ∷ []); values = begun r.values lent }) (written_grid g w.passes)

-- and is written again as the same bytes, into any output that has room
pub write_read_write : (g : Grid) (out out' : List ℕ) (n : ℕ) → (write_file_call g out).answer ≡ gives (n ∷ []) → n ≤ length out'
    → write_file_call (canonical g) out' ≡ record { answer = gives (n ∷ []); run = begun (take n (write_file_call g out).run) out' }
write_read_write g out out' n e h =
    let w = wrote_file g out n e in
    let s = canonical_file g w.passes in
    let l : length (file_of (canonical g)) ≡ n = ap length s ∙ w.counted in
    write_whole (canonical g) out' (canonical_passes g (each_fails (board_checks g) w.passes).0) (omega arith)
    ∙ (λ i. record { answer = gives (l i ∷ []); run = begun ((s ∙ sym w.wrote) i) out' })

-- two accepted files with the same sides that list the same mines in any order are read alike
pub any_order_read : (file file' : List ℕ) (lent : List ℤ) → file_refusal file ≡ none → file_refusal file' ≡ none → file_rows file ≡ file_rows file' → file_columns file ≡ file_columns file'
    → ((p : ℕ) → has p (mine_places file) ≡ has p (mine_places file')) → read_file_call file lent ≡ read_file_call file' lent
any_order_read file file' lent e e' r c h =
    read_passed file lent e
    ∙ (λ i. unless_refused (first_given (record { given = ltb (length lent) (r i * c i); refusal = board } ∷ [])) lent
    (record { answer = gives (r i ∷ c i ∷ []); values = begun (any_order file file' r c h i).values lent }))
    ∙ sym (read_passed file' lent e')

-- ---- every call

-- every call comes to the same on a grid and on what its file reads as
pub file_calls : (g : Grid) → first_given (board_checks g) ≡ none → SameCalls g (file_grid (file_of g))
file_calls g e = subst (SameCalls g) (sym (written_grid g e)) (canonical_calls g e)

-- ---- P7 and P11 of the rules as bytes

-- the board of a number in the rules' table
abbrev pub board_of : ℕ → Grid
board_of k = get_or (map (λ (l : Line). l.grid) twelve) (k - 1) (record { rows = 0; columns = 0; values = [] })

pub p7_file : file_of (board_of 7) ≡ 2 ∷ 2 ∷ 0 ∷ 1 ∷ 0 ∷ 0 ∷ []
unfolding file_of mine twelve
p7_file = refl

pub p11_file : file_of (board_of 11) ≡ 3 ∷ 3 ∷ 0 ∷ 1 ∷ 1 ∷ 1 ∷ []
unfolding file_of mine twelve
p11_file = refl

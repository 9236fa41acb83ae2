-- Bytes cut into lines, wherever they are parted: a line feed alone ends a line. Assumes nothing.
use Prim.Native.Nat.{ℕ}
use mathlib.Core.Path.{◌≡◌, refl, ap}
use mathlib.Core.Bool.{Bool, true, false}
use mathlib.Core.List.{List, [], ◌∷◌, ◌++◌}
use lib.Dec.{eqb}
use Rattle.line_prices.specs.Blocks.{Cut, cut_from}

-- bytes read on where a cut ended
abbrev pub read_on : Cut → List ℕ → Cut
read_on c bs = record { ended = c.ended ++ (cut_from c.goes-on bs).ended; goes-on = (cut_from c.goes-on bs).goes-on }

pub cut_joins : (begun xs ys : List ℕ) → cut_from begun (xs ++ ys) ≡ read_on (cut_from begun xs) ys
cut_joins begun [] ys = refl
cut_joins begun (x ∷ xs) ys = go (eqb x 10) (cut_joins [] xs ys) (cut_joins (begun ++ x ∷ []) xs ys)
  where
    ends : Cut → Cut
    ends c = record { ended = begun ∷ c.ended; goes-on = c.goes-on }

    go : (t : Bool) → cut_from [] (xs ++ ys) ≡ read_on (cut_from [] xs) ys → cut_from (begun ++ x ∷ []) (xs ++ ys) ≡ read_on (cut_from (begun ++ x ∷ []) xs) ys
        → ◌≡◌ {A = Cut} (elim t [ true ↦ ends (cut_from [] (xs ++ ys)) | false ↦ cut_from (begun ++ x ∷ []) (xs ++ ys) ])
        (read_on (elim t [ true ↦ ends (cut_from [] xs) | false ↦ cut_from (begun ++ x ∷ []) xs ]) ys)
    go true p q = ap ends p
    go false p q = q

-- A call in its strict form, or as it is. Assumes nothing.
use Rattle.std.specs.Prelude.{Bool, false, true}
use Rattle.std.proofs.Math.Option.{Option, none}
use Rattle.game.specs.Calls.{Refusal, decided, first_given, strict_checks}
use Rattle.game.specs.Grid.{Grid}

-- the refusal that the strict form gives before the present call's own; the present form gives none
abbrev pub form_refusal : Bool → Grid → Option Refusal
form_refusal true g = first_given (strict_checks g)
form_refusal false g = none

-- what a call comes to in its strict form, or as it is
abbrev pub in_form : {A : Type 0} → Bool → (Refusal → A) → Grid → A → A
in_form strict leaves g present = decided (form_refusal strict g) leaves present

-- A key as a source: a draw among one takes the first place, among more the first word that is taken; its place is one of them. Assumes nothing.
use Prim.Native.Nat.{ℕ, ◌/◌, ◌<◌, ◌≤◌}
use native.Mathlib.Nat.{mod-lt}
use mathlib.Core.Path.{◌≡◌, subst}
use mathlib.Core.Option.{some}
use Rattle.game.specs.Draws.{Drawn, Mode, Places, first_taken}
use Rattle.game.specs.Keys.{Key, key_word, keyed, most_spent}
use Rattle.game.proofs.Draws.{IfSome, by_drawn, drawn_more, drawn_one}

-- a key draws among the places
pub keyed_places : (mode : Mode) (k : Key) → Places (keyed mode k)
unfolding keyed
keyed_places mode k =
    record {
      inside = λ at n d h e. subst (IfSome (λ (x : Drawn). x.place < n)) e
          (by_drawn (λ (x : Drawn). x.place < n) (λ a. key_word k (a / 4)) mode n most_spent at h (λ a l m t. mod-lt (key_word k (a / 4)) h));
    }

-- among one, or none, it takes the first place and uses no word
pub keyed_one : (mode : Mode) (k : Key) (at n : ℕ) → n ≤ 1 → keyed mode k at n ≡ some (record { place = 0; next = at })
unfolding keyed
keyed_one mode k at n h = drawn_one (λ a. key_word k (a / 4)) mode n most_spent at h

-- among more it takes the first word that is taken
pub keyed_more : (mode : Mode) (k : Key) (at n : ℕ) → 1 < n → keyed mode k at n ≡ first_taken (λ a. key_word k (a / 4)) mode n most_spent at
unfolding keyed
keyed_more mode k at n h = drawn_more (λ a. key_word k (a / 4)) mode n most_spent at h

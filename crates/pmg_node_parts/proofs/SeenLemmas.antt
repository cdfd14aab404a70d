-- What is answered of what is seen: where a value is seen, it does not matter whether the process has ended.
use Rattle.std.proofs.Common.{◌≡◌, ℕ, Bool, true, List, Option, Some, None, refl}
use Rattle.std.specs.Prelude.{is_none}
use Rattle.std.specs.Option.{option_map}
use Rattle.pmg_get.specs.Gets.{Seen, resolve}
use Rattle.pmg_get.specs.declared.view.Mode.{Mode}
use Rattle.pmg_get.specs.declared.view.Mode.TheVariants as modes

pub near_alike : {A : Type 0} (f : A → List ℕ) (value other : Option A) (near far : Option (List ℕ)) (a b : Bool) (mode : Mode) → option_map f value ≡ near → option_map f other ≡ far
    → (is_none value ≡ true → a ≡ b) → resolve (Seen.local (option_map f value) (option_map f other) a) mode ≡ resolve (Seen.local near far b) mode
unfolding resolve
near_alike f None other near far a b mode is also same = (λ i. resolve (Seen.local (is i) (also i) (same refl i)) mode)
near_alike f (Some v) other near far a b mode is also same = (λ i. resolve (Seen.local (is i) (also i) b) mode)

pub far_alike : {A : Type 0} (f : A → List ℕ) (value : Option A) (far : Option (List ℕ)) (a b : Bool) (mode : Mode) → option_map f value ≡ far
    → (is_none value ≡ true → a ≡ b) → resolve (Seen.remote (option_map f value) a) mode ≡ resolve (Seen.remote far b) mode
unfolding resolve
far_alike f None far a b mode is same = (λ i. resolve (Seen.remote (is i) (same refl i)) mode)
far_alike f (Some v) far a b modes.Wait is same = (λ i. resolve (Seen.remote (is i) b) modes.Wait)
far_alike f (Some v) far a b modes.Now is same = (λ i. resolve (Seen.remote (is i) b) modes.Now)
far_alike f (Some v) far a b modes.Refresh is same = refl

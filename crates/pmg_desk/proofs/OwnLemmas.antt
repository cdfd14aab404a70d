-- What a client reads of what it put itself.
use Rattle.std.proofs.Common.{◌≡◌, ℕ, true, List, Option, Some, None, Ok, Err, refl, subst}
use Rattle.std.specs.Cmp.{Equal-is}
use Rattle.std.proofs.lemmas.Bool.{and_parts}
use Rattle.pmg_value.specs.Spelling.{spelling}
use Rattle.pmg_value.specs.declared.refusal.Refusal.TheVariants as refusals
use Rattle.pmg_value.specs.declared.process.Proc.{Proc}
use Rattle.pmg_value.specs.declared.value.Value.{Value}
use Rattle.pmg_value.proofs.ProcessOrder.{exact_procs}
use Rattle.pmg_get.specs.Gets.{Seen, resolve}
use Rattle.pmg_get.specs.declared.view.Mode.{Mode}
use Rattle.pmg_node_parts.specs.Calls.{get_of}
use Rattle.pmg_node_model.specs.Acts.{reply_of}
use Rattle.pmg_desk.specs.Reading.{GivesDue, is_own_key}

found_due : (mode : Mode) (v : Value) → GivesDue (Ok v) (reply_of (resolve (Seen.own (Some (spelling v))) mode))
unfolding resolve
found_due mode v = refl

none_due : (mode : Mode) → GivesDue (Err refusals.NotFound) (reply_of (resolve (Seen.own None) mode))
unfolding resolve
none_due mode = refl

-- the value that was put last
pub own_found : (o : Option (List ℕ)) (v : Value) → Some (spelling v) ≡ o → (mode : Mode) → GivesDue (Ok v) (reply_of (resolve (Seen.own o) mode))
own_found o v is mode = subst (λ (x : Option (List ℕ)). GivesDue (Ok v) (reply_of (resolve (Seen.own x) mode))) is (found_due mode v)

-- nothing was put
pub own_none : (o : Option (List ℕ)) → None ≡ o → (mode : Mode) → GivesDue (Err refusals.NotFound) (reply_of (resolve (Seen.own o) mode))
own_none o is mode = subst (λ (x : Option (List ℕ)). GivesDue (Err refusals.NotFound) (reply_of (resolve (Seen.own x) mode))) is (none_due mode)

-- a key of its own is one of its own process
pub own_target : (p target : Proc) (key : List ℕ) → is_own_key p (get_of target key) ≡ true → p ≡ target
own_target p target key own = exact_procs p target ((Equal-is _).0 (and_parts _ _ own).0)

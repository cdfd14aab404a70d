-- The members of a process set, as a node knows them.
use Rattle.std.proofs.Common.{◌≡◌, ℕ, Bool, false, cond, List, [], Option, Some, None, is_none, Result, Ok, Err, ap, ◌∙◌}
use Rattle.std.specs.Option.{unwrap_or}
use Rattle.pmg_value.specs.CheckOrder.{first_of}
use Rattle.pmg_value.specs.Names.{is_reserved}
use Rattle.pmg_value.specs.Process.{host_name}
use Rattle.pmg_value.specs.declared.process.Proc.{Proc}
use Rattle.pmg_value.specs.declared.refusal.Refusal.{Refusal}
use Rattle.pmg_value.specs.declared.refusal.Refusal.TheVariants as refusals
use Rattle.pmg_commit.specs.Data.{Data, read_at}
use Rattle.pmg_node.specs.Members.{members_of_value, known_members, known_members_cause, members_known}
use Rattle.pmg_node.specs.Servers.{Server}

-- what is due, by whether the name is one of the standard's, and by what is known
abbrev due : Bool → Option (List ℕ) → Result (List ℕ) Refusal
due reserved known = cond reserved (Err refusals.BadParam) (cond (is_none known) (Err refusals.NotFound) (Ok (unwrap_or known [])))

module _ (far : Data) (name : List ℕ) where
  pub no_members : is_reserved name ≡ false → known_members far name ≡ None → first_of (known_members_cause far name) (members_known far name) ≡ Err refusals.NotFound
  no_members is none = λ i. due (is i) (none i)

  pub some_members : (bytes : List ℕ) → is_reserved name ≡ false → known_members far name ≡ Some bytes
      → first_of (known_members_cause far name) (members_known far name) ≡ Ok bytes
  some_members bytes is some = λ i. due (is i) (some i)

-- what is read of the host's process is what is known of the set
pub read_known : (s old : Server) (far : Data) (p : Proc) (name : List ℕ) (o : Option (List ℕ)) → old ≡ s → far ≡ old.holding.far → p.nspace ≡ host_name
    → p.rank ≡ 0 → o ≡ read_at far p name → members_of_value o ≡ known_members s.holding.far name
read_known s old far p name o same there nspace rank is =
    ap members_of_value is
    ∙ (λ i. members_of_value (read_at (there i) (record { nspace = nspace i; rank = rank i }) name))
    ∙ ap (λ (x : Server). known_members x.holding.far name) same

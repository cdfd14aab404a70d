use Rattle.std.proofs.Common.{Ok, Result, sym, subst, refl}
use Rattle.pmg_value.specs.Answers.{Gives}
use Rattle.pmg_value.specs.Elements.{Elements}
use Rattle.pmg_value.specs.declared.refusal.Refusal.{Refusal}
use Rattle.pmg_pset.specs.Members.{proc_array}
use Rattle.pmg_pset.proofs.MemberLemmas.{made}
use Rattle.pmg_pset.proofs.members.array_of.Goals as goal

pub returns : goal.returns
returns c =
    subst (λ (r : Result Elements Refusal). Gives (λ (a : Elements). a) r (Ok (proc_array c.args.procs.items)))
    (sym (made c.args.procs.items c.in_ok-values_of.field-0.items c.new.result c.requires c.in_ok-values_of.ensures c.new.ensures)) refl

use Rattle.std.proofs.Common.{◌≡◌, Bool, true, false, Ok, Err, Result, if◌then◌else◌, ap, sym, subst, ◌∙◌}
use Rattle.pmg_value.specs.Elements.{Elements}
use Rattle.pmg_value.specs.Spelling.{spelling}
use Rattle.pmg_value.specs.declared.refusal.Refusal.{Refusal}
use Rattle.pmg_value.specs.declared.refusal.Refusal.TheVariants as refusals
use Rattle.pmg_value.specs.declared.value.Value.TheVariants as values
use Rattle.pmg_scope.specs.Cached.{global_put}
use Rattle.pmg_commit.specs.Sealed.{Sealed, can_seal, sealed_with}
use Rattle.pmg_commit.specs.TakenBack.{sealer_back}
use Rattle.pmg_commit.proofs.SealerLaws.{made_can}
use Rattle.pmg_pset.specs.Members.{proc_array, proc_bytes}
use Rattle.pmg_pset.specs.Sets.{AreSets}
use Rattle.pmg_pset.proofs.SetLemmas.{changed_are_sets}
use Rattle.pmg_pset.proofs.sets.Sets.change.Goals as goal

same_array : (a b : Elements) → ◌≡◌ {A = Result Elements Refusal} (Ok a) (Ok b) → b ≡ a
same_array a b h = cc

-- a commit that is made can be taken back to the sealer that there was
made_back : (b : Bool) (x w : Sealed) → ◌≡◌ {A = Result Sealed Refusal} (if b then Ok x else Err refusals.TooMany) (Ok w) → x ≡ w
made_back true x w h = cc
made_back false x w h = absurd cc

pub invariant_of-self : goal.invariant_of-self
invariant_of-self c = subst AreSets (sym c.in_err-before.ensures.err) c.self.invariant

pub invariant_of-self-2 : goal.invariant_of-self-2
invariant_of-self-2 c =
    let z = c.self.inside.sealer in
    let procs = c.args.procs.items in
    let array = same_array (proc_array procs) c.in_ok-array.array c.in_ok-array.ensures in
    let batch : c.in_ok-batch.batch ≡ global_put c.args.name.now (proc_bytes procs) =
    c.in_ok-batch.ensures ∙ (λ i. global_put (c.in_ok-copy.ensures i) (spelling (values.Array (array i)))) in
    let can : can_seal z c.in_ok-batch.batch ≡ true = made_can (can_seal z c.in_ok-batch.batch) z (sealer_back c.commit.new.self c.in_ok-before.before) c.in_ok-before.ensures.before in
    changed_are_sets z c.commit.new.self c.args.name.now procs c.self.invariant (ap (can_seal z) (sym batch) ∙ can) (c.in_ok-before.ensures.ok ∙ ap (sealed_with z) batch)

pub returns-clause-fits : goal.returns-clause-fits
returns-clause-fits c = record {
  sealer = c.in_ok-before.ensures.fits;
  sets =
      let z = c.self.inside.sealer in
      subst AreSets (made_back (can_seal z c.in_ok-batch.batch) z (sealer_back c.commit.new.self c.in_ok-before.before) c.in_ok-before.ensures.before) c.self.invariant;
}

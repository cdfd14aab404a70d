use Rattle.std.proofs.Common.{◌≡◌, is_some, true, sym, ap, subst, ◌∙◌}
use Rattle.std.specs.FinMap as finite
use Rattle.std.specs.Prelude.{IfSome}
use Rattle.std.specs.List.{flat_map}
use Rattle.pmg_value.specs.declared.process.Proc.{Proc}
use Rattle.pmg_commit.specs.Sealed.{Sealed, end_of, ended_with}
use Rattle.pmg_commit.specs.TakenBack.{CanRollBack as CanRollSealBack}
use Rattle.pmg_fence.specs.Changes.{ended_by, news}
use Rattle.pmg_fence.specs.Tables.{names_of}
use Rattle.pmg_node_model.specs.Choosing.{announcing}
use Rattle.pmg_node.specs.Endings.{own_ended, table_ended}
use Rattle.pmg_node_parts.specs.Owns.{LocalCommits, sealed_of}
use Rattle.pmg_node_parts.specs.Sealers.{AllSealed, sealed_by}
use Rattle.pmg_node.proofs.EndLemmas.{client_sealed, put_there, own_ends, own_returns, own_ended_level}
use Rattle.pmg_node.proofs.ending.end.Goals as goal

pub take_seal_back-requires-clause-there : goal.take_seal_back-requires-clause-there
take_seal_back-requires-clause-there c =
    let p = c.args.proc.now in
    let was : AllSealed = c.own.inside.sealers in
    ap (λ (m : AllSealed). is_some (finite.get m p)) c.in_ok-sealer.ensures.ok ∙ put_there was p (end_of (sealed_by was p))

pub take_seal_back-requires-clause-fits : goal.take_seal_back-requires-clause-fits
take_seal_back-requires-clause-fits c =
    let new : LocalCommits = record { sealers = c.end.new.self; sets = c.own.inside.sets } in
    subst (λ (z : Sealed). IfSome c.in_ok-sealer.sealer (CanRollSealBack z)) (sym (client_sealed new c.args.proc.now c.requires.client)) c.in_ok-sealer.ensures.fits

module _ (c : goal.In-Ok) where
  abbrev p : Proc
  p = c.args.proc.now

  abbrev was : LocalCommits
  was = record { sealers = c.own.inside.sealers; sets = c.own.inside.sets }

  there : is_some (finite.get was.sealers p) ≡ true
  there = ap (λ (o : LocalCommits). is_some (finite.get o.sealers p)) c.own.view_is ∙ c.requires.there

  ended : ◌≡◌ {A = LocalCommits} (record { sealers = c.end.new.self; sets = c.own.inside.sets }) (own_ended c.args.own.now p)
  ended =
      let live = ap (λ (o : LocalCommits). (sealed_of o p).ended) c.own.view_is ∙ c.requires.live in
      own_ends was p c.requires.client there c.end.new.self c.in_ok-sealer.ensures.ok live ∙ ap (λ (o : LocalCommits). own_ended o p) c.own.view_is

  level : c.level.result ≡ (ended_with (sealed_of c.args.own.now p)).level
  level = c.level.ensures.value ∙ ap (λ (o : LocalCommits). (sealed_of o p).level) ended ∙ own_ended_level c.args.own.now p c.requires.client

pub returns-in-Ok-clause-own : goal.returns-in-Ok-clause-own
returns-in-Ok-clause-own c = ended c

pub returns-in-Ok-clause-table : goal.returns-in-Ok-clause-table
returns-in-Ok-clause-table c = c.in-Ok.ensures.ok ∙ ap (table_ended c.args.table.now (p c)) (level c)

pub returns-in-Ok-clause-dues : goal.returns-in-Ok-clause-dues
returns-in-Ok-clause-dues c =
    let k = c.args.table.now in
    c.in-Ok.ensures.dues ∙ (λ i. flat_map (announcing k.jobs c.args.id) (flat_map (news k.jobs c.args.id k.fences (ended_by k.fences (p c) (level c i))) (names_of k.fences)))

pub returns-in-Ok-clause-own_before : goal.returns-in-Ok-clause-own_before
returns-in-Ok-clause-own_before c =
    own_returns (was c) (p c) c.requires.client (there c) c.end.new.self (end_of (sealed_by (was c).sealers (p c))) c.in_ok-sealer.sealer c.in_ok-sealer.ensures.ok c.in_ok-sealer.ensures.before
    ∙ c.own.view_is

pub returns-in-Ok-clause-own_fits : goal.returns-in-Ok-clause-own_fits
returns-in-Ok-clause-own_fits c =
    let new : LocalCommits = record { sealers = c.end.new.self; sets = c.own.inside.sets } in
    subst (λ (z : Sealed). IfSome c.in_ok-sealer.sealer (CanRollSealBack z)) (sym (client_sealed new c.args.proc.now c.requires.client)) c.in_ok-sealer.ensures.fits

pub returns-in-Err-clause-own_err : goal.returns-in-Err-clause-own_err
returns-in-Err-clause-own_err c =
    let p = c.args.proc.now in
    let was : LocalCommits = record { sealers = c.own.inside.sealers; sets = c.own.inside.sets } in
    let there = ap (λ (o : LocalCommits). is_some (finite.get o.sealers p)) c.own.view_is ∙ c.requires.there in
    c.take_seal_back.ensures
    ∙ own_returns was p c.requires.client there c.end.new.self (end_of (sealed_by was.sealers p)) c.in_ok-sealer.sealer c.in_ok-sealer.ensures.ok c.in_ok-sealer.ensures.before ∙ c.own.view_is

-- A process in a fence that is not old is released exactly where the fence is ready.
use Rattle.std.proofs.Common.{◌≡◌, ℕ, true, false, Some, inl, inr, sym, ap, subst, ◌∙◌}
use Rattle.pmg_value.specs.Lists.{In}
use Rattle.pmg_value.specs.Signatures.{Signature, FenceName}
use Rattle.pmg_value.specs.declared.process.Proc.{Proc}
use Rattle.pmg_scope.specs.Scripts.{has_end}
use Rattle.pmg_commit.specs.Data.{level_at}
use Rattle.pmg_commit.specs.Sealed.{ended_with}
use Rattle.pmg_commit.proofs.SealerLaws as sealers
use Rattle.pmg_frame.specs.Fences.{participants_of}
use Rattle.pmg_jobinfo.specs.Jobs.{Jobs}
use Rattle.pmg_fence.specs.Changes.{entered_by, ended_by}
use Rattle.pmg_fence.specs.Entering.{entry}
use Rattle.pmg_fence.specs.Rules.{Scripts, Grows, Keeps, gone_of}
use Rattle.pmg_fence.specs.Tables.{says_gone}
use Rattle.pmg_fence.specs.declared.entry.Entry.{Entry}
use Rattle.pmg_fence.proofs.EntryLemmas.{entry_stays}
use Rattle.pmg_fence.proofs.FitLemmas.{ready_stays, ready_is_whole, gone_are_true}
use Rattle.pmg_fence.proofs.KeepLemmas.{enter_keeps, end_keeps}
use Rattle.pmg_fence.proofs.ReadLemmas.{filter_alike}
use Rattle.pmg_node_model.specs.Acts.{Act, acts, says}
use Rattle.pmg_node_model.specs.Fitting.{Fits, is_refusal, unless_refused}
use Rattle.pmg_node_model.specs.Holdings.{NodeState, sealer_of, is_ready_at}
use Rattle.pmg_node_model.specs.NodeLaws.{ReleasedWhereReady}
use Rattle.pmg_node_model.proofs.ActsFitted.{acts_fit}
use Rattle.pmg_node_model.proofs.CauseFacts.{IsCaller}
use Rattle.pmg_node_model.proofs.Growing.{act_rises}
use Rattle.pmg_node_model.proofs.Reading.{grows_unless}
use Rattle.pmg_node_model.proofs.AfterActs.{ready_frees, freed_by_ready}
use Rattle.pmg_node_model.proofs.Lasting.{headers_last}
use Rattle.pmg_node_model.proofs.Names.{young_still}

-- ---- entries and the gone, as scripts grow

pub entry_grown : (scripts grown : Scripts) (f : FenceName) (q : Proc) (e : Entry) → Grows scripts grown → entry (scripts q) f ≡ Some e → entry (grown q) f ≡ Some e
entry_grown scripts grown f q e grows is = ap (λ s. entry s f) (grows q).1 ∙ entry_stays (scripts q) (grows q).0 f e is

pub gone_grown : (scripts grown : Scripts) (f : FenceName) → Grows scripts grown → ((q : Proc) → In q (participants_of f) → (e : Entry) × (entry (scripts q) f ≡ Some e)) → gone_of scripts f ≡ gone_of grown f
gone_grown scripts grown f grows whole =
    filter_alike (λ q. says_gone (entry (scripts q) f)) (λ q. says_gone (entry (grown q) f)) (participants_of f) (λ q i.
    let its = whole q i in
    ap says_gone (its.1 ∙ sym (entry_grown scripts grown f q its.0 grows its.1)))

-- ---- a header that is there stays as it is

module _ (jobs : Jobs) (scripts : Scripts) (node : ℕ) (h : NodeState) (fits : Fits jobs scripts node h) (f : FenceName) where
  live_by : (p : Proc) → IsCaller jobs node h p → has_end (scripts p) ≡ false
  live_by p caller = sym (fits.own p caller.home).sealer.ended ∙ caller.live

  entry_keeps : (p : Proc) (g : Signature) → IsCaller jobs node h p → Keeps jobs node h.table (entered_by h.table g p (sealer_of h p).level) f
  entry_keeps p g caller =
      subst (λ n. Keeps jobs node h.table (entered_by h.table g p n) f) (sym (fits.own p caller.home).sealer.level)
      (enter_keeps jobs node scripts h.table p g f caller.home (live_by p caller) fits.table)

  over_keeps : (p : Proc) → IsCaller jobs node h p → Keeps jobs node h.table (ended_by h.table p (ended_with (sealer_of h p)).level) f
  over_keeps p caller =
      let live = live_by p caller in
      let new = sealers.end_fits (sealer_of h p) (scripts p) live (fits.own p caller.home).sealer in
      subst (λ n. Keeps jobs node h.table (ended_by h.table p n) f) (sym new.level) (end_keeps jobs node scripts h.table p f caller.home live fits.table)

  act_keeps : (a : Act) → Keeps jobs node h.table (acts jobs node h a).left.table f
  act_keeps = headers_last jobs node h f entry_keeps over_keeps

pub released_where_ready : ReleasedWhereReady
released_where_ready jobs are scripts node h fits hosts a fit before =
    let new : NodeState = (acts jobs node h a).left in
    let grown = unless_refused (is_refusal (acts jobs node h a).reply) scripts (says jobs a) in
    let grows : Grows scripts grown = grows_unless (is_refusal (acts jobs node h a).reply) scripts (says jobs a) in
    let after = acts_fit jobs are scripts node h fits hosts a fit in
    let rises = act_rises jobs node h a in
    record {
      released = λ p f gone e young. elim (freed_by_ready jobs node h a p f gone e) [
        | inl was ↦
            let old = before.released p f gone was (young_still jobs node h a f young) in
            let ready : is_ready_at jobs node new f ≡ true =
            ready_stays jobs node h.table new.table f (level_at h.far) (level_at new.far) (act_keeps jobs scripts node h fits f a) young rises.far old.0 in
            let whole : (q : Proc) → In q (participants_of f) → (e : Entry) × (entry (scripts q) f ≡ Some e) = λ q i.
            let its = ready_is_whole jobs node scripts h.table f (level_at h.far) fits.table old.0 q i in
            (its.0, its.1) in (
              ready,
              old.1 ∙ gone_are_true jobs node scripts h.table f (level_at h.far) fits.table old.0 ∙ gone_grown scripts grown f grows whole
                  ∙ sym (gone_are_true jobs node grown new.table f (level_at new.far) after.table ready),
            )
        | inr now ↦ now
      ];
      waits = ready_frees jobs node h a before.waits;
    }

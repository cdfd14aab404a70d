-- Each name that a node has is of a fence that was entered.
use Rattle.std.proofs.Common.{◌≡◌, ℕ, suc, Bool, true, false, not, cond, List, [], ◌∷◌, ◌++◌, Option, Some, None, refl, sym, ap, ◌∙◌}
use Rattle.std.specs.FinSet as set
use Rattle.pmg_value.specs.Lists.{In}
use Rattle.pmg_value.specs.Signatures.{Signature, FenceName}
use Rattle.pmg_value.specs.declared.process.Proc.{Proc}
use Rattle.pmg_scope.specs.Scripts.{Call, has_end, count_commits}
use Rattle.pmg_frame.specs.Fences.{participants_of}
use Rattle.pmg_frame.specs.declared.frame.Frame.{Frame}
use Rattle.pmg_frame.specs.declared.frame.Frame.TheVariants as frames
use Rattle.pmg_frame.specs.declared.local.Local.{Local}
use Rattle.pmg_jobinfo.specs.Jobs.{Jobs}
use Rattle.pmg_fence.specs.Changes.{present, next_name}
use Rattle.pmg_fence.specs.Entering.{level_before}
use Rattle.pmg_fence.specs.Rules.{Scripts, Grows}
use Rattle.pmg_fence.specs.Tables.{Fences, has_name, own_header}
use Rattle.pmg_fence.proofs.EntryLemmas.{level_stays, level_entered}
use Rattle.pmg_node_model.specs.Acts.{Request, Act, also, list_cause, signature_cause, free_cause, request_cause, cause, list_of, signature_of, serves, does, says, said_by}
use Rattle.pmg_node_model.specs.Fitting.{Fits, is_refusal, unless_refused, with_said}
use Rattle.pmg_node_model.specs.Holdings.{NodeState}
use Rattle.pmg_node_model.specs.Sending.{Allowed}
use Rattle.pmg_node_model.proofs.CauseFacts.{NoCause, IsCaller, free_is, neither_cause}
use Rattle.pmg_node_model.proofs.KeptActs.{part_listed}
use Rattle.pmg_node_model.proofs.Names.{FrameNames, NewNames}
use Rattle.pmg_node_model.proofs.Reading.{grows_unless}
use Rattle.pmg_node_model.proofs.Saying.{script_said}
use Rattle.pmg_group_model.specs.Turns.{WasEntered, NamesEntered, AreNamed}

pub entered_grown : (scripts grown : Scripts) (f : FenceName) → Grows scripts grown → WasEntered scripts f → WasEntered grown f
entered_grown scripts grown f grows was = (
  was.0,
  was.1,
  ap (λ s. level_before s f.signature f.instance) (grows was.0).1 ∙ level_stays (scripts was.0) (grows was.0).0 f.signature f.instance was.1 was.2,
)

pub names_grown : (scripts grown : Scripts) → Grows scripts grown → (frame : Frame) → NamesEntered scripts frame → NamesEntered grown frame
names_grown scripts grown grows (frames.Header hd) was = entered_grown scripts grown hd.name grows was
names_grown scripts grown grows (frames.FenceAsk a) was = entered_grown scripts grown a.name grows was
names_grown scripts grown grows _ was = tt

-- ---- what a node may send names fences that were entered

name_of_present : (b : Bool) (o : Option (List Local)) (ls : List Local) → cond b o None ≡ Some ls → b ≡ true
name_of_present true o ls e = refl
name_of_present false o ls e = absurd cc

pub present_has_name : (jobs : Jobs) (node : ℕ) (t : Fences) (f : FenceName) (ls : List Local) → present jobs node t f ≡ Some ls → has_name t f ≡ true
unfolding present
present_has_name jobs node t f ls e = name_of_present (has_name t f) (own_header jobs node t f) ls e

pub allowed_named : (jobs : Jobs) (scripts : Scripts) (node : ℕ) (act : Act) (h : NodeState) → AreNamed scripts h → (frame : Frame) → Allowed jobs node act h frame → NamesEntered scripts frame
unfolding Allowed
allowed_named jobs scripts node act h named (frames.Header hd) allowed = named.names hd.name (present_has_name jobs node h.table hd.name hd.locals allowed.1)
allowed_named jobs scripts node act h named (frames.FenceAsk a) allowed = (named.calls allowed.1 a.name allowed.2.1).entered
allowed_named jobs scripts node act h named _ allowed = tt

-- ---- which names there are after an act

-- what is asked of an act: a frame names fences that were entered
abbrev pub ActNames : Scripts → Act → Type 0
ActNames scripts (Act.request r) = Unit {0}
ActNames scripts (Act.commit p b) = Unit {0}
ActNames scripts (Act.deliver frame) = NamesEntered scripts frame

-- ---- names were entered

frame_entered : (scripts grown : Scripts) → Grows scripts grown → (frame : Frame) → NamesEntered scripts frame → FrameNames (WasEntered grown) frame
frame_entered scripts grown grows (frames.Header hd) named = entered_grown scripts grown hd.name grows named
frame_entered scripts grown grows (frames.FenceAsk a) named = entered_grown scripts grown a.name grows named
frame_entered scripts grown grows _ named = tt

module _ (jobs : Jobs) (scripts : Scripts) (node : ℕ) (h : NodeState) (fits : Fits jobs scripts node h) where
  -- the fence that a process enters was entered
  enters_name : (p : Proc) (g : Signature) → IsCaller jobs node h p → WasEntered (with_said scripts (said_by p (Call.enter g ∷ []))) (next_name h.table g p)
  enters_name p g caller =
      let s = scripts p in
      let live : has_end s ≡ false = sym (fits.own p caller.home).sealer.ended ∙ caller.live in (
        p,
        count_commits s,
        ap (λ x. level_before x g (next_name h.table g p).instance) (script_said scripts p (Call.enter g ∷ []))
            ∙ ap (λ n. level_before (s ++ Call.enter g ∷ []) g (suc n)) ((fits.table.own p caller.home).counts g)
            ∙ level_entered s g live,
      )

  -- who enters is at home there, and takes part
  pub entry_caller : (p : Proc) (list : List Proc) (collect : Bool) → NoCause (cause jobs node h (Act.request (Request.enter p list collect)))
      → IsCaller jobs node h p × In p (participants_of (next_name h.table (signature_of jobs p list collect) p))
  unfolding cause request_cause
  entry_caller p list collect none =
      let g = signature_of jobs p list collect in
      let parts = neither_cause (free_cause jobs node h p) (also (list_cause jobs (list_of p list)) (signature_cause h g p)) none in
      let its = (neither_cause (list_cause jobs (list_of p list)) (signature_cause h g p) parts.1).1 in
      ((free_is jobs node h p parts.0).0, part_listed (next_name h.table g p) p (not_not (set.contains g.participants p) its.1.1.1.1.1.1.0))
    where
      not_not : (b : Bool) → not b ≡ false → b ≡ true
      not_not true e = refl
      not_not false e = absurd cc

  abbrev pub grown_by : Act → Scripts
  grown_by a = unless_refused (is_refusal (does jobs node h a).reply) scripts (says jobs a)

  grows_by : (a : Act) → Grows scripts (grown_by a)
  grows_by a = grows_unless (is_refusal (does jobs node h a).reply) scripts (says jobs a)

  pub names_entered : (a : Act) → NoCause (cause jobs node h a) → ActNames scripts a → NewNames jobs h (WasEntered (grown_by a)) a
  unfolding does serves says
  names_entered (Act.request (Request.enter p list collect)) none named = enters_name p (signature_of jobs p list collect) (entry_caller p list collect none).0
  names_entered (Act.request (Request.leave p)) none named = tt
  names_entered (Act.request (Request.ask p get mode)) none named = tt
  names_entered (Act.request (Request.take p)) none named = tt
  names_entered (Act.request (Request.terminate p)) none named = tt
  names_entered (Act.request (Request.define name list)) none named = tt
  names_entered (Act.request (Request.delete name)) none named = tt
  names_entered (Act.request Request.nudge) none named = tt
  names_entered (Act.commit p b) none named = tt
  names_entered (Act.deliver frame) none named = frame_entered scripts (grown_by (Act.deliver frame)) (grows_by (Act.deliver frame)) frame named

-- Own headers, as they are announced.
use Rattle.std.proofs.Common.{◌≡◌, ℕ, Bool, true, false, cond, List, [], ◌∷◌, ◌++◌, map, Option, Some, None, sym, refl, ap, ◌∙◌}
use Rattle.std.specs.List.{flat_map}
use Rattle.std.proofs.lemmas.Simd.{map-map}
use Rattle.pmg_value.specs.Signatures.{FenceName}
use Rattle.pmg_value.specs.declared.process.Proc.{Proc}
use Rattle.pmg_frame.specs.Fences.{Header, header}
use Rattle.pmg_frame.specs.declared.frame.Frame.TheVariants as frames
use Rattle.pmg_frame.specs.declared.local.Local.{Local}
use Rattle.pmg_jobinfo.specs.Jobs.{Jobs}
use Rattle.pmg_fence.specs.Changes.{present, newly, news}
use Rattle.pmg_fence.specs.Entering.{told_locals, locals_of}
use Rattle.pmg_fence.specs.Tables.{Fences, has_name, entry_at, own_header}
use Rattle.pmg_fence.specs.declared.entry.Entry.{Entry}
use Rattle.pmg_fence.proofs.LimitLemmas.{lines_procs}
use Rattle.pmg_node_model.specs.Choosing.{peers_in, telling, announcing}
use Rattle.pmg_node_model.specs.Sending.{sent}
use Rattle.pmg_node_parts.specs.Telling.{telling_by, announcing_by}
use Rattle.pmg_node_model.specs.declared.due.ToSend.{ToSend}
use Rattle.pmg_node_model.specs.declared.due.ToSend.TheVariants as sendings

-- the processes that a header lists
abbrev pub procs_of : List Local → List Proc
procs_of locals = map (λ (l : Local). l.proc) locals

told_procs : (s : Proc → Option Entry) (ps : List Proc) (ls : List Local) → told_locals s ps ≡ Some ls → procs_of ls ≡ ps
told_procs s [] ls h = absurd cc
told_procs s (p ∷ ps) ls h = lines_procs s (p ∷ ps) ls h

-- an own header lists the own participants
pub present_lists : (jobs : Jobs) (id : ℕ) (t : Fences) (f : FenceName) (ls : List Local) → present jobs id t f ≡ Some ls → procs_of ls ≡ locals_of jobs f id
unfolding present own_header
present_lists jobs id t f ls h = by_name (has_name t f) h
  where
    by_name : (b : Bool) → cond b (told_locals (entry_at t f) (locals_of jobs f id)) None ≡ Some ls → procs_of ls ≡ locals_of jobs f id
    by_name true e = told_procs (entry_at t f) (locals_of jobs f id) ls e
    by_name false e = absurd cc

module _ (jobs : Jobs) (id : ℕ) where
  -- a header that lists the own participants is told_locals with the commits of these
  pub telling_alike : (hd : Header) (node : ℕ) → procs_of hd.locals ≡ locals_of jobs hd.name id → telling_by hd node ≡ telling jobs id hd node
  telling_alike hd node same =
      ap (λ (ds : List ToSend). sendings.Whole (sent node (frames.Header hd)) ∷ cond hd.name.signature.collect ds [])
      (sym (map-map (sendings.Rest node) (λ (l : Local). l.proc) hd.locals) ∙ ap (map (sendings.Rest node)) same)

  newly_alike : (f : FenceName) (before now : Option (List Local)) → ((ls : List Local) → now ≡ Some ls → procs_of ls ≡ locals_of jobs f id)
      → flat_map (announcing_by jobs id) (newly id f before now) ≡ flat_map (announcing jobs id) (newly id f before now)
  newly_alike f (Some ls) now lists = refl
  newly_alike f None None lists = refl
  newly_alike f None (Some ls) lists = λ i. flat_map (λ node. telling_alike (header id f ls) node (lists ls refl) i) (peers_in jobs id f) ++ []

  -- and so are the news of a fence
  pub news_alike : (old new : Fences) (f : FenceName) → flat_map (announcing_by jobs id) (news jobs id old new f) ≡ flat_map (announcing jobs id) (news jobs id old new f)
  unfolding news
  news_alike old new f = newly_alike f (present jobs id old f) (present jobs id new f) (present_lists jobs id new f)

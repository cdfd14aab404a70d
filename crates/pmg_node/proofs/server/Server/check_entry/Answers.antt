use Rattle.std.proofs.Common.{◌≡◌, Bool, true, false, ◌==◌, not, cond, List, is_some, Ok, Err, refl, sym, ap, ◌∙◌}
use Rattle.pmg_value.specs.CheckOrder.{first_of}
use Rattle.pmg_value.specs.declared.process.Proc.{Proc}
use Rattle.pmg_value.specs.declared.refusal.Refusal.TheVariants as refusals
use Rattle.pmg_jobinfo.specs.Jobs.{Jobs, home_of}
use Rattle.pmg_node_model.specs.Holdings.{call_of}
use Rattle.pmg_node_parts.specs.Owns.{sealed_of}
use Rattle.pmg_node.specs.Content.{server_of}
use Rattle.pmg_node.specs.Entries.{entry_cause}
use Rattle.pmg_node.specs.Servers.{Server}
use Rattle.pmg_node.specs.declared.server.Server.TheInside.{Inside}
use Rattle.pmg_node.proofs.EntryLemmas.{is_bad_by, is_unknown_by, is_outside_by, entry_chain, some_mapped_is, judged_now, judged_all_now}
use Rattle.pmg_node.proofs.server.Server.check_entry.Goals as goal

-- the node that the fields make
abbrev within : Inside → Server
within i = server_of i.table i.id i.board i.own i.calls i.held i.marks

module _ (i : Inside) (s : Server) (view : within i ≡ s) (jobs : Jobs) (same : jobs ≡ i.table.jobs) (p : Proc) (list : List Proc) where
  -- how who enters is judged, by what was looked at
  judged_as : (a b c d e f : Bool) → is_bad_by jobs p list ≡ a → is_unknown_by jobs p list ≡ b → (home_of jobs p == i.id) ≡ c → (sealed_of i.own p).ended ≡ d
      → is_some (call_of (within i).holding p) ≡ e → entry_cause i.table.jobs i.id (within i).holding p list refusals.NotAParticipant ≡ f
      → entry_chain a b (not c) d e f ≡ first_of (entry_cause s.jobs s.id s.holding p list) (tt {0})
  judged_as a b c d e f bad unknown home ended busy outside =
      sym (judged_now i.table i.id i.board i.own i.calls i.held i.marks s view jobs same p list a b c d e f bad unknown home ended busy outside)

  -- and by all of it
  judged_whole : (f : Bool) → is_bad_by jobs p list ≡ false → is_unknown_by jobs p list ≡ false → (home_of jobs p == i.id) ≡ true → (sealed_of i.own p).ended ≡ false
      → is_some (call_of (within i).holding p) ≡ false → is_outside_by jobs p list ≡ f
      → cond f (Err refusals.NotAParticipant) (Ok tt) ≡ first_of (entry_cause s.jobs s.id s.holding p list) (tt {0})
  judged_whole f bad unknown home ended busy outside =
      sym (judged_all_now i.table i.id i.board i.own i.calls i.held i.marks s view jobs same p list f bad unknown home ended busy outside)

pub returns-then-is_bad_entry : goal.returns-then-is_bad_entry
returns-then-is_bad_entry c =
    judged_as c.self.inside c.args.self.now c.self.view_is _ c.registry-registry.ensures c.args.proc.now c.args.list.now true _ _ _ _ _
    (sym c.is_bad_entry.ensures ∙ c.if-is_bad_entry.true) refl refl refl refl refl

pub returns-then-is_unknown_entry : goal.returns-then-is_unknown_entry
returns-then-is_unknown_entry c =
    judged_as c.self.inside c.args.self.now c.self.view_is _ c.registry-registry.ensures c.args.proc.now c.args.list.now false true _ _ _ _
    (sym c.is_bad_entry.ensures ∙ c.if-is_bad_entry.false) (sym c.is_unknown_entry.ensures ∙ c.if-is_unknown_entry.true) refl refl refl refl

pub returns-then-not-is_home : goal.returns-then-not-is_home
returns-then-not-is_home c =
    judged_as c.self.inside c.args.self.now c.self.view_is _ c.registry-registry.ensures c.args.proc.now c.args.list.now false false false _ _ _
    (sym c.is_bad_entry.ensures ∙ c.if-is_bad_entry.false) (sym c.is_unknown_entry.ensures ∙ c.if-is_unknown_entry.false) (sym c.is_home.ensures ∙ c.if-not-is_home.true) refl refl refl

pub returns-then-has_ended : goal.returns-then-has_ended
returns-then-has_ended c =
    judged_as c.self.inside c.args.self.now c.self.view_is _ c.registry-registry.ensures c.args.proc.now c.args.list.now false false true true _ _
    (sym c.is_bad_entry.ensures ∙ c.if-is_bad_entry.false) (sym c.is_unknown_entry.ensures ∙ c.if-is_unknown_entry.false) (sym c.is_home.ensures ∙ c.if-not-is_home.false)
    (sym c.has_ended.ensures ∙ c.if-has_ended.true) refl refl

pub returns-then-is_some : goal.returns-then-is_some
returns-then-is_some c =
    judged_as c.self.inside c.args.self.now c.self.view_is _ c.registry-registry.ensures c.args.proc.now c.args.list.now false false true false true _
    (sym c.is_bad_entry.ensures ∙ c.if-is_bad_entry.false) (sym c.is_unknown_entry.ensures ∙ c.if-is_unknown_entry.false) (sym c.is_home.ensures ∙ c.if-not-is_home.false)
    (sym c.has_ended.ensures ∙ c.if-has_ended.false) (ap is_some (sym c.get.ensures) ∙ some_mapped_is _ c.get.result ∙ sym c.is_some.ensures ∙ c.if-is_some.true) refl

pub returns-then-is_outside : goal.returns-then-is_outside
returns-then-is_outside c =
    judged_whole c.self.inside c.args.self.now c.self.view_is _ c.registry-registry.ensures c.args.proc.now c.args.list.now true
    (sym c.is_bad_entry.ensures ∙ c.if-is_bad_entry.false) (sym c.is_unknown_entry.ensures ∙ c.if-is_unknown_entry.false) (sym c.is_home.ensures ∙ c.if-not-is_home.false)
    (sym c.has_ended.ensures ∙ c.if-has_ended.false) (ap is_some (sym c.get.ensures) ∙ some_mapped_is _ c.get.result ∙ sym c.is_some.ensures ∙ c.if-is_some.false)
    (sym c.is_outside.ensures ∙ c.if-is_outside.true)

pub returns : goal.returns
returns c =
    judged_whole c.self.inside c.args.self.now c.self.view_is _ c.registry-registry.ensures c.args.proc.now c.args.list.now false
    (sym c.is_bad_entry.ensures ∙ c.if-is_bad_entry.false) (sym c.is_unknown_entry.ensures ∙ c.if-is_unknown_entry.false) (sym c.is_home.ensures ∙ c.if-not-is_home.false)
    (sym c.has_ended.ensures ∙ c.if-has_ended.false) (ap is_some (sym c.get.ensures) ∙ some_mapped_is _ c.get.result ∙ sym c.is_some.ensures ∙ c.if-is_some.false)
    (sym c.is_outside.ensures ∙ c.if-is_outside.false)

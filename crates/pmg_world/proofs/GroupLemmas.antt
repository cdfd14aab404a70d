-- A group in code, after an event.
use Rattle.std.proofs.Common.{◌≡◌, ℕ, ◌<◌, ◌≤◌, Bool, nat_lt, true, false, List, ◌++◌, length, get_or, set, Option, Some, None, Result, Err, refl, sym, ap, subst, ◌∙◌, arith}
use Rattle.std.proofs.lemmas.Bool.{lt-ltb, ltb-true}
use Rattle.std.proofs.lemmas.Bool.Decides.{nat_tests}
use Rattle.std.proofs.lemmas.List.{set-get_or}
use Rattle.pmg_value.specs.Lists.{Each}
use Rattle.pmg_value.specs.declared.process.Proc.{Proc}
use Rattle.pmg_value.specs.declared.refusal.Refusal.{Refusal}
use Rattle.pmg_value.specs.declared.refusal.Refusal.TheVariants as refusals
use Rattle.pmg_jobinfo.specs.Jobs.{Jobs, AreJobs, is_node, home_of}
use Rattle.pmg_fence.specs.Rules.{Scripts}
use Rattle.pmg_node.specs.Acting.{reply_as}
use Rattle.pmg_node_model.specs.Acts.{Act, Reply, Said, says}
use Rattle.pmg_node_model.specs.Fitting.{is_refusal, unless_refused}
use Rattle.pmg_node_model.specs.Sending.{NodeStep}
use Rattle.pmg_node.specs.Servers.{Server, IsAnswered, RepliesAct, after, sent_by}
use Rattle.pmg_node.specs.declared.act.Reply.{Reply as GivenReply}
use Rattle.pmg_node.specs.declared.act.Reply.TheVariants as replies
use Rattle.pmg_node_model.specs.declared.sent.Sent.{Sent}
use Rattle.pmg_world.specs.Keeping.{AreCaches, AreNodes, IsNodeOf, IsSame, IsGroup, Represents, Happens, replied}
use Rattle.pmg_group_model.specs.Worlds.{World, Event, Doing, Does, Step, with_holding_at, doing, numbered, reply_or_refusal}
use Rattle.pmg_world.specs.declared.group.Group.{Group}
use Rattle.pmg_world.proofs.ActLemmas.{answered_due, act_steps, act_keeps, act_peers}
use Rattle.pmg_group_model.proofs.Speaking.{numbered_is}
use Rattle.pmg_group_model.proofs.Steps.{each_both}
use Rattle.pmg_node_model.proofs.KeptBasics.{home_is_node}

-- the event leads from the world, with that reply, to one that the group stands for
pub record LeadsOn (jobs : Jobs) (w : World) (e : Event) (r : Reply) (g : Group) : Type 0 where
  pub after : World
  pub step : Step jobs w e r after
  pub stands : Represents g after

pub happens_by : (old : Group) (e : Event) (answer : Result GivenReply Refusal) (new : Group) → new.registry ≡ old.registry
    → (IsAnswered answer → (w : World) → Represents old w → LeadsOn old.registry w e (replied answer) new) → Happens old e answer new
unfolding Happens
happens_by old e answer new same leads is = (same, λ w stands. let on = leads is w stands in (on.after, on.step, on.stands))

-- a group of the same nodes and frames, whose caches are those of other scripts
pub stands_with : (old new : Group) (w v : World) → Represents old w → new.registry ≡ old.registry → new.nodes.items ≡ old.nodes.items → new.sent.items ≡ old.sent.items
    → v.nodes ≡ w.nodes → v.sent ≡ w.sent → AreCaches new.caches v.scripts → Represents new v
stands_with old new w v stands same_jobs same_nodes same_sent nodes sent caches = record {
  jobs = subst AreJobs (sym same_jobs) stands.jobs;
  nodes = subst (λ (j : Jobs). AreNodes j new.nodes.items v.nodes) (sym same_jobs)
      (subst (λ (xs : List Server). AreNodes old.registry xs v.nodes) (sym same_nodes) (subst (AreNodes old.registry old.nodes.items) (sym nodes) stands.nodes));
  caches = caches;
  sent = same_sent ∙ stands.sent ∙ sym sent;
  peers = subst (λ (j : Jobs). Each (λ (x : Sent). is_node j x.to ≡ true) new.sent.items) (sym same_jobs)
      (subst (λ (xs : List Sent). Each (λ (x : Sent). is_node old.registry x.to ≡ true) xs) (sym same_sent) stands.peers);
}

-- ---- a call that a cache answers

-- it says nothing, or is refused
pub stays : (g : Group) (w : World) → Represents g w → (e : Event) (due : Result Reply Refusal) (said : Option Said) (r : Reply) → doing g.registry w e ≡ Doing.by_cache due said → r ≡ reply_or_refusal due
    → unless_refused (is_refusal r) w.scripts said ≡ w.scripts → LeadsOn g.registry w e r g
stays g w stands e due said r is replied same = record {
  after = w;
  step = subst (λ (d : Doing). Does g.registry w d r w) (sym is) (record { replied = replied; left = ap (λ (s : Scripts). record { scripts = s; nodes = w.nodes; sent = w.sent }) (sym same) });
  stands = stands;
}

pub refused_stays : (g : Group) (w : World) → Represents g w → (e : Event) (due : Result Reply Refusal) (said : Option Said) (cause : Refusal) → doing g.registry w e ≡ Doing.by_cache due said
    → due ≡ Err cause → LeadsOn g.registry w e (Reply.refused cause) g
refused_stays g w stands e due said cause is refused = stays g w stands e due said (Reply.refused cause) is (ap reply_or_refusal (sym refused)) refl

-- ---- an act at a node

-- what the act's call tells
pub record IsActed (old : Group) (node : ℕ) (d : Server) (a : Act) (answer : Result GivenReply Refusal) (registry : Jobs) (servers : List Server) (frames : List Sent) : Type 0 where
  pub inside : node < length old.nodes.items
  pub is : IsAnswered answer
  pub reply : RepliesAct reply_as answer (get_or old.nodes.items node d) a
  pub nodes : servers ≡ set old.nodes.items node (after (get_or old.nodes.items node d) a)
  pub sent : frames ≡ old.sent.items ++ sent_by (get_or old.nodes.items node d) a
  pub jobs : registry ≡ old.registry

pub acts_on : (old new : Group) (w : World) → Represents old w → (e : Event) (node : ℕ) (d : Server) (a : Act) (answer : Result GivenReply Refusal)
    → IsActed old node d a answer new.registry new.nodes.items new.sent.items → doing old.registry w e ≡ Doing.at_node node a
    → AreCaches new.caches (unless_refused (is_refusal (replied answer)) w.scripts (says old.registry a)) → LeadsOn old.registry w e (replied answer) new
acts_on old new w stands e node d a answer acted is caches =
    let s : Server = get_or old.nodes.items node d in
    let steps = act_steps old.registry stands.jobs old.nodes.items w.nodes stands.nodes node d acted.inside a in
    let keeps = act_keeps old.registry stands.jobs old.nodes.items w.nodes stands.nodes node d acted.inside a in
    let peers = act_peers old.registry stands.jobs old.nodes.items w.nodes stands.nodes node d acted.inside a in
    let due = answered_due reply_as answer s a acted.reply acted.is in
    let left : World = record { scripts = unless_refused (is_refusal (replied answer)) w.scripts (says old.registry a); nodes = with_holding_at w.nodes node (after s a).holding; sent = w.sent ++ sent_by s a } in
    record {
      after = left;
      step = subst (λ (x : Doing). Does old.registry w x (replied answer) left) (sym is) (record {
        new = (after s a).holding;
        out = sent_by s a;
        step = subst (λ (r : Reply). NodeStep old.registry node (w.nodes node) a r (after s a).holding (sent_by s a)) (sym due) steps;
        left = refl;
      });
      stands = record {
        jobs = subst AreJobs (sym acted.jobs) stands.jobs;
        nodes = subst (λ (j : Jobs). AreNodes j new.nodes.items left.nodes) (sym acted.jobs) (subst (λ (xs : List Server). AreNodes old.registry xs left.nodes) (sym acted.nodes) keeps);
        caches = caches;
        sent = acted.sent ∙ ap (λ (xs : List Sent). xs ++ sent_by s a) stands.sent;
        peers = subst (λ (j : Jobs). Each (λ (x : Sent). is_node j x.to ≡ true) new.sent.items) (sym acted.jobs)
            (subst (λ (xs : List Sent). Each (λ (x : Sent). is_node old.registry x.to ≡ true) xs) (sym acted.sent)
            (each_both (λ (x : Sent). is_node old.registry x.to ≡ true) old.sent.items (sent_by s a) stands.peers peers));
      };
    }

-- ---- exits

pub same_group : (g : Group) → IsSame g g
same_group g = record { jobs = refl; nodes = refl; caches = refl; sent = refl }

-- where an allocation failed nothing is said
pub short_happens : (old : Group) (e : Event) (answer : Result GivenReply Refusal) (new : Group) → answer ≡ Err refusals.NoMemory → Happens old e answer new
unfolding Happens
short_happens old e answer new short is = absurd (subst IsAnswered short is)

pub not_short : {P : Type 0} (answer : Result GivenReply Refusal) → answer ≡ Err refusals.NoMemory → IsAnswered answer → P
not_short answer short is = absurd (subst IsAnswered short is)

-- ---- indexes

inside_by : (jobs : Jobs) (n node : ℕ) → n ≡ length jobs.nodes → node < n → is_node jobs node ≡ true
inside_by jobs n node count inside = lt-ltb node (length jobs.nodes) (subst (λ k. node < k) count inside)

pub inside_is_node : (g : Group) (w : World) → Represents g w → (node : ℕ) → node < length g.nodes.items → is_node g.registry node ≡ true
inside_is_node g w stands node inside = inside_by g.registry (length g.nodes.items) node stands.nodes.count inside

pub outside_is_none : (g : Group) (w : World) → Represents g w → (node : ℕ) → length g.nodes.items ≤ node → is_node g.registry node ≡ false
outside_is_none g w stands node past = out (length g.registry.nodes) stands.nodes.count
  where
    out : (n : ℕ) → length g.nodes.items ≡ n → nat_lt node n ≡ false
    out n count = grind (arith, nat_tests)

-- the server that stands at an index is that node's
pub node_there : (g : Group) (w : World) → Represents g w → (node index : ℕ) (s : Server) → index ≡ node → index < length g.nodes.items → s ≡ get_or g.nodes.items index s → IsNodeOf g.registry node (w.nodes node) s
node_there g w stands node index s same inside is =
    subst (λ n. IsNodeOf g.registry n (w.nodes n) s) same (subst (IsNodeOf g.registry index (w.nodes index)) (sym is) (stands.nodes.each index s inside))

node_is_inside : (jobs : Jobs) (n node : ℕ) → n ≡ length jobs.nodes → is_node jobs node ≡ true → node < n
node_is_inside jobs n node count is = subst (λ k. node < k) (sym count) (ltb-true node (length jobs.nodes) is)

pub home_inside : (g : Group) → IsGroup g → (p : Proc) → home_of g.registry p < length g.nodes.items
unfolding IsGroup
home_inside g group p = node_is_inside g.registry (length g.nodes.items) (home_of g.registry p) group.1.nodes.count (home_is_node g.registry group.1.jobs p)

pub peer_inside : (g : Group) → IsGroup g → (n : ℕ) (s : Sent) → numbered g.sent.items n ≡ Some s → s.to < length g.nodes.items
unfolding IsGroup
peer_inside g group n s is =
    node_is_inside g.registry (length g.nodes.items) s.to group.1.nodes.count (numbered_is (λ (x : Sent). is_node g.registry x.to ≡ true) g.sent.items n s group.1.peers is)

-- a list in which an item is set to what it was is the same
pub set_as_was : {A : Type 0} (xs : List A) (k : ℕ) (y : A) {x : A} → x ≡ get_or xs k y → set xs k x ≡ xs
set_as_was xs k y is = ap (set xs k) is ∙ set-get_or xs k y

-- ---- replies

pub no_refusal : (r : GivenReply) → is_refusal (reply_as r) ≡ false
no_refusal replies.Done = refl
no_refusal _ = refl

pub says_nothing : (refused : Bool) (scripts : Scripts) → unless_refused refused scripts None ≡ scripts
says_nothing true scripts = refl
says_nothing false scripts = refl

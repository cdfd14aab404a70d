-- A world in code, as it is led by its events.
use Rattle.std.proofs.Common.{◌≡◌, ◌⊎◌, ℕ, suc, ◌<◌, true, List, [], ◌∷◌, ◌++◌, map, length, take, get_or, Result, refl, sym, ap, subst, ◌∙◌, append_assoc}
use Rattle.std.proofs.Math.Seq.{take-suc}
use Rattle.std.proofs.lemmas.List.{map-append}
use Rattle.pmg_value.specs.declared.refusal.Refusal.{Refusal}
use Rattle.pmg_jobinfo.specs.Jobs.{AreJobs, Jobs}
use Rattle.pmg_fence.proofs.LineLemmas.{append_empty}
use Rattle.pmg_fence.specs.Tables.{has_name}
use Rattle.pmg_fence.specs.Rules.{Scripts}
use Rattle.pmg_node.specs.Servers.{IsAnswered, Server}
use Rattle.pmg_node.specs.declared.act.Reply.{Reply as GivenReply}
use Rattle.pmg_world.specs.Accounts.{Account, Adds, GoesOn, IsAccountLawful, IsLed, IsLedBy, IsRun, LeadsTo, account_of}
use Rattle.pmg_world.specs.KeptFences.{KeepFences, KeepsFences}
use Rattle.pmg_world.specs.Keeping.{AreCaches, Happens, IsGroup, IsNodeOf, IsSame, Represents, happened_so}
use Rattle.pmg_world.specs.Telling.{event_of, happened_of}
use Rattle.pmg_node_model.specs.Holdings.{NodeState}
use Rattle.pmg_node_model.specs.Kept.{IsServer, top_in}
use Rattle.pmg_node_model.specs.Sending.{WaitsIn}
use Rattle.pmg_group_model.specs.Worlds.{World, Event, Happened, Run, start}
use Rattle.pmg_group_model.specs.Lawful.{IsLawful}
use Rattle.pmg_group_model.proofs.Keeping.{keeps_two, keeps_waiting}
use Rattle.pmg_group_model.proofs.ToldScripts.{scripts_are_told}
use Rattle.pmg_world.specs.declared.event.Event.{Event as ToldEvent}
use Rattle.pmg_world.specs.declared.event.LoggedEvent.{LoggedEvent}
use Rattle.pmg_world.specs.declared.group.Group.{Group}
use Rattle.pmg_caches.specs.Caching.{AllCached}
use Rattle.pmg_world.proofs.GroupLemmas.{stands_with}
use Rattle.pmg_group_model.proofs.RunLemmas.{next_run, run_both, run_cut, run_is_lawful, run_more, run_none, run_sends}
use Rattle.pmg_world.proofs.StartLemmas.{some_server}

-- ---- what a world is

pub led_start : (g : Group) (jobs : Jobs) → g.registry ≡ jobs → Represents g (start jobs) → IsLedBy g []
unfolding IsLedBy
led_start g jobs same stands = (start g.registry, run_none g.registry (start g.registry), subst (λ (j : Jobs). Represents g (start j)) (sym same) stands)

pub led_group : (g : Group) (told : List Happened) → IsLedBy g told → IsGroup g
unfolding IsLedBy IsGroup
led_group g told led = (led.0, led.2)

-- a group that stands for one world stands for each of the same nodes, caches and frames
pub stands_at : (g : Group) (v w : World) → Represents g v → ((node : ℕ) (d : Server) → node < length g.nodes.items → IsNodeOf g.registry node (w.nodes node) (get_or g.nodes.items node d))
    → AreCaches g.caches w.scripts → g.sent.items ≡ w.sent → Represents g w
stands_at g v w of nodes caches sent = record {
  jobs = of.jobs;
  nodes = record {
    count = of.nodes.count;
    each = nodes;
    servers = λ node inside.
        let d = some_server g.registry in
        let holds : v.nodes node ≡ w.nodes node = sym (of.nodes.each node d inside).holds ∙ (nodes node d inside).holds in
        subst (λ (h : NodeState). IsServer g.registry node h) holds (of.nodes.servers node inside);
  };
  caches = caches;
  sent = sent;
  peers = of.peers;
}

-- the group stands for the world at the end of the run
stands_leads : (g : Group) (told : List LoggedEvent) (w : World) → Run g.registry (start g.registry) (map happened_of told) w → Represents g w → LeadsTo (account_of g told) w
stands_leads g told w run stands = record { run = run; count = stands.nodes.count; nodes = λ node d inside. stands.nodes.each node d inside; sent = stands.sent }

-- so it does for each world that the events lead to
leads_stands : (g : Group) (told : List LoggedEvent) → IsLed g told → (w : World) → LeadsTo (account_of g told) w → Represents g w
unfolding IsLedBy
leads_stands g told led w leads =
    let jobs = g.registry in
    let scripts : w.scripts ≡ led.0.scripts =
    scripts_are_told jobs (start jobs) (map happened_of told) w leads.run ∙ sym (scripts_are_told jobs (start jobs) (map happened_of told) led.0 led.1) in
    stands_at g led.0 w led.2 leads.nodes (subst (λ (s : Scripts). AreCaches g.caches s) (sym scripts) led.2.caches) leads.sent

pub led_run : (g : Group) (told : List LoggedEvent) → IsLed g told → IsRun (account_of g told)
unfolding IsLedBy IsRun
led_run g told led = (led.0, stands_leads g told led.0 led.1 led.2)

-- the laws hold of each beginning of what a run tells
pub run_kept : (jobs : Jobs) → AreJobs jobs → (told : List Happened) (w : World) → Run jobs (start jobs) told w → (xs ys : List Happened) → told ≡ xs ++ ys → IsLawful jobs xs
run_kept jobs are told w run xs ys cut =
    let parts = run_cut jobs xs ys (start jobs) w (subst (λ (l : List Happened). Run jobs (start jobs) l w) cut run) in
    run_is_lawful jobs are xs parts.mid parts.first

pub led_kept : (g : Group) (told : List LoggedEvent) → IsLed g told → IsAccountLawful (account_of g told)
unfolding IsLedBy IsAccountLawful
led_kept g told led xs ys cut = run_kept g.registry led.2.jobs (map happened_of told) led.0 led.1 xs ys cut

-- each node keeps two fences of a signature, and those in which its processes wait
keeps_at : (jobs : Jobs) → AreJobs jobs → (told : List Happened) (w : World) → Run jobs (start jobs) told w → (node : ℕ) (s : Server) → s.holding ≡ w.nodes node → KeepsFences jobs node s
keeps_at jobs are told w run node s holds = record {
  two = λ f. subst (λ (h : NodeState). has_name h.table f ≡ true → (f.instance ≡ top_in h.table f.signature) ⊎ (suc f.instance ≡ top_in h.table f.signature)) (sym holds)
      (keeps_two jobs are told w run node f);
  waiting = λ f p. subst (λ (h : NodeState). WaitsIn jobs node h f p → has_name h.table f ≡ true) (sym holds) (keeps_waiting jobs are told w run node f p);
}

pub led_fences : (g : Group) (told : List LoggedEvent) → IsLed g told → KeepFences (account_of g told)
unfolding IsLedBy KeepFences
led_fences g told led node d inside =
    keeps_at g.registry led.2.jobs (map happened_of told) led.0 led.1 node (get_or g.nodes.items node d) (led.2.nodes.each node d inside).holds

-- an event more, and the world that it leads to
pub record More (old new : Group) (told : List Happened) (h : Happened) (w : World) : Type 0 where
  pub after : World
  pub one : Run old.registry w (h ∷ []) after
  pub run : Run new.registry (start new.registry) (told ++ h ∷ []) after
  pub stands : Represents new after

pub more : (old new : Group) (told : List Happened) (e : Event) (answer : Result GivenReply Refusal) → IsAnswered answer → Happens old e answer new
    → (w : World) → Run old.registry (start old.registry) told w → Represents old w → More old new told (happened_so e answer) w
unfolding Happens
more old new told e answer is happens w before stands =
    let jobs = old.registry in
    let on = happens is in
    let next = on.1 w stands in
    let h = happened_so e answer in
    let one = next_run jobs w h [] next.0 (record { mid = next.0; step = next.1; rest = run_none jobs next.0 }) in
    let run = run_more jobs told (start jobs) w h next.0 before next.1 in
    record { after = next.0; one = one; run = subst (λ (j : Jobs). Run j (start j) (told ++ h ∷ []) next.0) (sym on.0) run; stands = next.2 }

pub led_more : (old new : Group) (told : List Happened) (e : Event) (answer : Result GivenReply Refusal) → IsLedBy old told → IsAnswered answer → Happens old e answer new
    → IsLedBy new (told ++ happened_so e answer ∷ [])
unfolding IsLedBy
led_more old new told e answer led is happens =
    let next = more old new told e answer is happens led.0 led.1 led.2 in
    (next.after, next.run, next.stands)

-- what is told with an event more
pub told_more : (told : List LoggedEvent) (t : LoggedEvent) → map happened_of (told ++ t ∷ []) ≡ map happened_of told ++ happened_of t ∷ []
told_more told t = map-append happened_of told (t ∷ [])

-- ---- what goes on from where it stood

-- where each run that led to the old account goes on, so do the frames
goes_on_by : (old new : Account) (told : List LoggedEvent) → IsRun old → new.told ≡ old.told ++ told
    → ((w : World) → LeadsTo old w → (v : World) × Run old.jobs w (map happened_of told) v × LeadsTo new v) → GoesOn old new
unfolding IsRun
goes_on_by old new told run is runs =
    let last = runs run.0 run.1 in
    let sends = run_sends old.jobs run.0 (map happened_of told) last.0 last.1 in
    record { more = told; told = is; out = sends.out; sent = last.2.sent ∙ sends.sent ∙ ap (λ xs. xs ++ sends.out) (sym run.1.sent); runs = runs }

-- by an event
pub led_goes_on : (old new : Group) (told : List LoggedEvent) (t : LoggedEvent) → IsLed old told → IsAnswered t.answer → Happens old (event_of t.event) t.answer new
    → GoesOn (account_of old told) (account_of new (told ++ t ∷ []))
led_goes_on old new told t led is happens =
    goes_on_by (account_of old told) (account_of new (told ++ t ∷ [])) (t ∷ []) (led_run old told led) refl
    (λ w leads.
    let next = more old new (map happened_of told) (event_of t.event) t.answer is happens w leads.run (leads_stands old told led w leads) in
    let run = subst (λ (l : List Happened). Run new.registry (start new.registry) l next.after) (sym (told_more told t)) next.run in
    (next.after, next.one, stands_leads new (told ++ t ∷ []) next.after run next.stands))

-- where nothing happens
pub goes_on_same : (old new : Account) → new ≡ old → GoesOn old new
goes_on_same old new same =
    subst (λ (a : Account). GoesOn old a) (sym same)
    (record { more = []; told = sym (append_empty old.told); out = []; sent = sym (append_empty old.sent); runs = λ w leads. (w, run_none old.jobs w, leads) })

-- and further
pub goes_on_more : (a b c : Account) → b.jobs ≡ a.jobs → GoesOn a b → GoesOn b c → GoesOn a c
goes_on_more a b c jobs one other = record {
  more = one.more ++ other.more;
  told = other.told ∙ ap (λ (xs : List LoggedEvent). xs ++ other.more) one.told ∙ append_assoc a.told one.more other.more;
  out = one.out ++ other.out;
  sent = other.sent ∙ ap (λ xs. xs ++ other.out) one.sent ∙ append_assoc a.sent one.out other.out;
  runs = λ w leads.
      let first = one.runs w leads in
      let second = other.runs first.0 first.2 in
      let rest : Run a.jobs first.0 (map happened_of other.more) second.0 = subst (λ (j : Jobs). Run j first.0 (map happened_of other.more) second.0) jobs second.1 in
      let whole = run_both a.jobs (map happened_of one.more) (map happened_of other.more) w first.0 second.0 first.1 rest in
      (second.0, subst (λ (xs : List Happened). Run a.jobs w xs second.0) (sym (map-append happened_of one.more other.more)) whole, second.2);
}

-- the group of the event more is that of the same registry
pub happens_jobs : (old : Group) (e : Event) (answer : Result GivenReply Refusal) (new : Group) → IsAnswered answer → Happens old e answer new → new.registry ≡ old.registry
unfolding Happens
happens_jobs old e answer new is happens = (happens is).0

pub same_account : (old new : Group) (told : List LoggedEvent) → IsSame old new → account_of new told ≡ account_of old told
same_account old new told same = (λ i. record { jobs = same.jobs i; nodes = same.nodes i; sent = same.sent i; told = told })

pub same_led : (old new : Group) (told : List Happened) → IsSame old new → IsLedBy old told → IsLedBy new told
unfolding IsLedBy
same_led old new told same led = (
  led.0,
  subst (λ (j : Jobs). Run j (start j) told led.0) (sym same.jobs) led.1,
  stands_with old new led.0 led.0 led.2 same.jobs same.nodes same.sent refl refl (subst (λ (all : AllCached). AreCaches all led.0.scripts) (sym same.caches) led.2.caches),
)

-- ---- what is told

pub adds_none : (old : List LoggedEvent) → Adds old [] old
unfolding Adds
adds_none old = ([], sym (append_empty old), refl)

pub adds_one : (old : List LoggedEvent) (e : ToldEvent) (t : LoggedEvent) (new : List LoggedEvent) → new ≡ old ++ t ∷ [] → event_of t.event ≡ event_of e → Adds old (e ∷ []) new
unfolding Adds
adds_one old e t new is same = (t ∷ [], is, ap (λ x. x ∷ []) same)

pub adds_alike : (old new : List LoggedEvent) (e f : ToldEvent) → Adds old (e ∷ []) new → event_of e ≡ event_of f → Adds old (f ∷ []) new
unfolding Adds
adds_alike old new e f added same = (added.0, added.1, added.2 ∙ ap (λ x. x ∷ []) same)

pub adds_more : (old mid new : List LoggedEvent) (es : List ToldEvent) (e : ToldEvent) → Adds old es mid → Adds mid (e ∷ []) new → Adds old (es ++ e ∷ []) new
unfolding Adds
adds_more old mid new es e one other = (
  one.0 ++ other.0,
  other.1 ∙ ap (λ (xs : List LoggedEvent). xs ++ other.0) one.1 ∙ append_assoc old one.0 other.0,
  map-append (λ (t : LoggedEvent). event_of t.event) one.0 other.0 ∙ (λ i. one.2 i ++ other.2 i) ∙ sym (map-append event_of es (e ∷ [])),
)

pub adds_next : (old mid new : List LoggedEvent) (es : List ToldEvent) (e : ToldEvent) (n m : ℕ) → n < length es → e ≡ get_or es n e → m ≡ suc n → Adds old (take n es) mid → Adds mid (e ∷ []) new
    → Adds old (take m es) new
adds_next old mid new es e n m inside is next one other =
    subst (λ (xs : List ToldEvent). Adds old xs new) (sym (ap (λ k. take k es) next ∙ take-suc es n e inside ∙ ap (λ (x : ToldEvent). take n es ++ x ∷ []) (sym is))) (adds_more old mid new (take n es) e one other)

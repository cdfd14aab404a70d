-- The scripts of a world are those that its events tell.
use Rattle.std.proofs.Common.{◌≡◌, Bool, true, false, cond, [], ◌∷◌, Option, Some, None, sym, ap, ◌∙◌}
use Rattle.pmg_value.specs.declared.process.Proc.{Proc}
use Rattle.pmg_scope.specs.Cached.{unsealed_of}
use Rattle.pmg_jobinfo.specs.Jobs.{Jobs, is_node}
use Rattle.pmg_get.specs.declared.view.Mode.{Mode}
use Rattle.pmg_node_model.specs.Acts.{Request, Act, Reply, Said, says}
use Rattle.pmg_node_model.specs.Fitting.{is_refusal, unless_refused}
use Rattle.pmg_node_model.specs.Holdings.{Get}
use Rattle.pmg_node_model.specs.declared.sent.Sent.{Sent}
use Rattle.pmg_group_model.specs.Worlds.{World, Event, Doing, Does, Run, doing, requests, own_get, is_own, puts, not_there, numbered, delivers, cache_of, said_in, scripts_after}
use Rattle.pmg_group_model.specs.Laws.{ScriptsAreTold}

-- what a doing adds to a script
abbrev pub said_of : Jobs → Doing → Option Said
said_of jobs (Doing.at_node node a) = says jobs a
said_of jobs (Doing.by_cache answer said) = said

does_tell : (jobs : Jobs) (w : World) (d : Doing) (r : Reply) (v : World) → Does jobs w d r v → v.scripts ≡ unless_refused (is_refusal r) w.scripts (said_of jobs d)
does_tell jobs w (Doing.at_node node a) r v step = ap (λ (x : World). x.scripts) step.left
does_tell jobs w (Doing.by_cache answer said) r v step = ap (λ (x : World). x.scripts) step.left

-- a doing that says what the event says, or is no call and refused
abbrev Tells : Jobs → World → Doing → Option Said → Type 0
Tells jobs w d said = (r : Reply) (v : World) → Does jobs w d r v → v.scripts ≡ unless_refused (is_refusal r) w.scripts said

not_there_tells : (jobs : Jobs) (w : World) (said : Option Said) → Tells jobs w not_there said
not_there_tells jobs w said r v step =
    ap (λ (x : World). x.scripts) step.left ∙ ap (λ (x : Reply). unless_refused (is_refusal x) w.scripts None) step.replied
    ∙ sym (ap (λ (x : Reply). unless_refused (is_refusal x) w.scripts said) step.replied)

if_node_tells : (jobs : Jobs) (w : World) (b : Bool) (d : Doing) (said : Option Said) → Tells jobs w d said → Tells jobs w (cond b d not_there) said
if_node_tells jobs w true d said tells = tells
if_node_tells jobs w false d said tells = not_there_tells jobs w said

ask_tells : (jobs : Jobs) (w : World) (node : _) (p : Proc) (get : Get) (mode : Mode) (b : Bool)
    → Tells jobs w (cond b (own_get jobs w node p get.key mode) (Doing.at_node node (Act.request (Request.ask p get mode)))) None
unfolding says
ask_tells jobs w node p get mode true = does_tell jobs w (own_get jobs w node p get.key mode)
ask_tells jobs w node p get mode false = does_tell jobs w (Doing.at_node node (Act.request (Request.ask p get mode)))

requests_tell : (jobs : Jobs) (w : World) (node : _) (r : Request) → Tells jobs w (requests jobs w node r) (says jobs (Act.request r))
unfolding says
requests_tell jobs w node (Request.enter p list collect) = does_tell jobs w (Doing.at_node node (Act.request (Request.enter p list collect)))
requests_tell jobs w node (Request.leave p) = does_tell jobs w (Doing.at_node node (Act.request (Request.leave p)))
requests_tell jobs w node (Request.ask p get mode) = ask_tells jobs w node p get mode (is_own p get)
requests_tell jobs w node (Request.take p) = does_tell jobs w (Doing.at_node node (Act.request (Request.take p)))
requests_tell jobs w node (Request.terminate p) = does_tell jobs w (Doing.at_node node (Act.request (Request.terminate p)))
requests_tell jobs w node (Request.define name list) = does_tell jobs w (Doing.at_node node (Act.request (Request.define name list)))
requests_tell jobs w node (Request.delete name) = does_tell jobs w (Doing.at_node node (Act.request (Request.delete name)))
requests_tell jobs w node Request.nudge = does_tell jobs w (Doing.at_node node (Act.request Request.nudge))

delivers_tell : (jobs : Jobs) (w : World) (o : Option Sent) → Tells jobs w (delivers o) None
unfolding says
delivers_tell jobs w None = does_tell jobs w not_there
delivers_tell jobs w (Some s) = does_tell jobs w (Doing.at_node s.to (Act.deliver s.frame))

pub step_tells : (jobs : Jobs) (w : World) (e : Event) → Tells jobs w (doing jobs w e) (said_in jobs e)
unfolding doing says
step_tells jobs w (Event.put p scope key value) = does_tell jobs w (puts jobs w p scope key value)
step_tells jobs w (Event.commit node p) = if_node_tells jobs w (is_node jobs node) (Doing.at_node node (Act.commit p (unsealed_of (cache_of (w.scripts p))))) (said_in jobs (Event.commit node p)) (does_tell jobs w (Doing.at_node node (Act.commit p (unsealed_of (cache_of (w.scripts p))))))
step_tells jobs w (Event.request node r) = if_node_tells jobs w (is_node jobs node) (requests jobs w node r) (says jobs (Act.request r)) (requests_tell jobs w node r)
step_tells jobs w (Event.deliver i) = delivers_tell jobs w (numbered w.sent i)

pub scripts_are_told : ScriptsAreTold
unfolding Run
scripts_are_told jobs w [] v run = ap (λ (x : World). x.scripts) run
scripts_are_told jobs w (x ∷ xs) v run =
    scripts_are_told jobs run.0 xs v run.2 ∙ ap (λ s. scripts_after jobs s xs) (step_tells jobs w x.event x.reply run.0 run.1)

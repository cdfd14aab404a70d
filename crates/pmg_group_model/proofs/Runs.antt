-- What holds of every run.
use Rattle.std.proofs.Common.{◌≡◌, List, [], ◌∷◌, Some, inl, inr, sym, subst, ◌∙◌}
use Rattle.pmg_value.specs.Lists.{In, Each}
use Rattle.pmg_frame.specs.declared.frame.Frame.TheVariants as frames
use Rattle.pmg_jobinfo.specs.Jobs.{Jobs, AreJobs}
use Rattle.pmg_fence.specs.Entering.{header_of}
use Rattle.pmg_node_model.specs.Fitting.{HonestFrame}
use Rattle.pmg_node_model.specs.Sending.{sent}
use Rattle.pmg_node_model.specs.declared.sent.Sent.{Sent}
use Rattle.pmg_group_model.specs.Worlds.{World, Happened, Run, start}
use Rattle.pmg_group_model.specs.Laws.{Good, AlwaysGood, OneHeader}
use Rattle.pmg_group_model.proofs.Starting.{start_good}
use Rattle.pmg_group_model.proofs.Steps.{step_good}

pub run_good : (jobs : Jobs) → AreJobs jobs → (xs : List Happened) (w v : World) → Good jobs w → Run jobs w xs v → Good jobs v
unfolding Run
run_good jobs are [] w v good run = subst (Good jobs) (sym run) good
run_good jobs are (x ∷ xs) w v good run = run_good jobs are xs run.0 v (step_good jobs are w good x.event x.reply run.0 run.1) run.2

pub always_good : AlwaysGood
always_good jobs are xs w run = run_good jobs are xs (start jobs) w (start_good jobs) run

pub each_in : (P : Sent → Type 0) (xs : List Sent) (s : Sent) → Each P xs → In s xs → P s
each_in P [] s each i = absurd i
each_in P (x ∷ xs) s each (inl is) = subst P (sym is) each.0
each_in P (x ∷ xs) s each (inr i) = each_in P xs s each.1 i

pub one_header : OneHeader
one_header jobs are xs w run a b m n one other name node =
    let good = always_good jobs are xs w run in
    let P : Sent → Type 0 = λ s. HonestFrame jobs w.scripts s.frame in
    let first : header_of jobs w.scripts a.name a.node ≡ Some a.locals = each_in P w.sent (sent m (frames.Header a)) good.honest one in
    let second : header_of jobs w.scripts b.name b.node ≡ Some b.locals = each_in P w.sent (sent n (frames.Header b)) good.honest other in
    let same : header_of jobs w.scripts a.name a.node ≡ header_of jobs w.scripts b.name b.node = (λ i. header_of jobs w.scripts (name i) (node i)) in
    let both : Some a.locals ≡ Some b.locals = sym first ∙ same ∙ second in
    cc

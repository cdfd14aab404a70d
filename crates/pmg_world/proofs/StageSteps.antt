-- What the lines of a script do in each phase.
use Rattle.std.proofs.Common.{◌≡◌, ◌∙◌, refl, sym, ap, subst, ℕ, Bool, true, false, ◌&&◌, List, [], Option, Some, None, Result, Ok, Err, Vec, Bor, Global}
use Rattle.std.proofs.lemmas.Option.{none-some}
use Rattle.pmg_value.specs.CheckOrder.{first_of}
use Rattle.pmg_value.specs.declared.refusal.Refusal.{Refusal}
use Rattle.pmg_value.specs.Names.{is_key}
use Rattle.pmg_value.specs.declared.process.Proc.{Proc}
use Rattle.pmg_value.specs.declared.refusal.Refusal.TheVariants as refusals
use Rattle.pmg_get.specs.declared.view.Mode.{Mode}
use Rattle.pmg_node_model.specs.Acts.{Request}
use Rattle.pmg_node_parts.specs.Calls.{get_of}
use Rattle.pmg_group_model.specs.Worlds.{Event}
use Rattle.pmg_jobinfo.specs.Jobs.{Jobs, home_of, opened}
use Rattle.pmg_jobinfo.specs.Refusing.{new_cause}
use Rattle.pmg_world.specs.GroupStates.{GroupState}
use Rattle.pmg_world.specs.Asking.{LineAsk, at_home, has_named_nspace, if_named, line_asks}
use Rattle.pmg_script.specs.Lines.{LineFails as NotRead}
use Rattle.pmg_script.specs.Scripts.{Line, line_of, said}
use Rattle.pmg_world.specs.Stages.{AnswersLine, AsksNothing, IsNew, Performs, Opens, OpensAt, Plays, PlaysLine, PlaysSaid, RegistersAt, Runs, RunsAt, RunsOn, StopsLine, ok_line, refused_line}
use Rattle.pmg_grouptext.specs.Groups.{with_named_space}
use Rattle.pmg_script.specs.declared.lines.LineFault.{LineFault}
use Rattle.pmg_script.specs.declared.lines.LineFault.TheVariants as faults
use Rattle.pmg_world.specs.declared.phase.Phase.{Phase}
use Rattle.pmg_world.specs.declared.phase.Phase.TheVariants as phases
use Rattle.pmg_script.specs.declared.script.Line.{Line as SaidLine}
use Rattle.pmg_script.specs.declared.script.Line.TheVariants as said_lines

-- ---- what fails

pub not_read : {Y : Type 0} (e : LineFault) (r : Option Y) → NotRead e r → e ≡ faults.Malformed → r ≡ None
not_read faults.Malformed r fails is = fails
not_read faults.NoMemory r fails is = absurd cc

fault_in : {T : Type 0} → Result T LineFault → LineFault
fault_in (Ok x) = faults.NoMemory
fault_in (Err e) = e

-- what a `?` hands on is malformed only where its cause was
pub same_fault : {T : Type 0} (r : Result T LineFault) (y e : LineFault) → r ≡ Err y → y ≡ e → r ≡ Err faults.Malformed → e ≡ faults.Malformed
unfolding fault_in
same_fault r y e is same bad = sym same ∙ ap fault_in (sym is ∙ bad)

-- ---- a key is asked for

-- a line that asks for a key, whose names are not all names
pub get_unnamed : (w : GroupState) (p target : Proc) (mode : Mode) (key text : List ℕ) → (has_named_nspace p && has_named_nspace target && is_key key) ≡ false → text ≡ refused_line refusals.BadParam
    → Runs w (Line.get p mode target key) text w
unfolding line_asks Performs
get_unnamed w p target mode key text is line = record {
  asked = LineAsk.unnamed;
  asks = ap (λ (b : Bool). Some (if_named b (at_home w.jobs p (Request.ask p (get_of target key) mode)))) is;
  performs = (line, refl);
}

-- one whose names are names, which are these
pub get_named : (w v : GroupState) (p target : Proc) (mode : Mode) (key text : List ℕ) → (has_named_nspace p && has_named_nspace target && is_key key) ≡ true
    → (home : ℕ) (q r : Proc) (k : List ℕ) → home ≡ home_of w.jobs q → q ≡ p → r ≡ target → k ≡ key
    → AnswersLine w (Event.request home (Request.ask q (get_of r k) mode)) text v → Runs w (Line.get p mode target key) text v
unfolding line_asks Performs
get_named w v p target mode key text is home q r k at same also name answers =
    let e : Event.request home (Request.ask q (get_of r k) mode) ≡ at_home w.jobs p (Request.ask p (get_of target key) mode) =
    (λ i. Event.request ((at ∙ ap (home_of w.jobs) same) i) (Request.ask (same i) (get_of (also i) (name i)) mode)) in
    record {
      asked = LineAsk.happens (at_home w.jobs p (Request.ask p (get_of target key) mode));
      asks = ap (λ (b : Bool). Some (if_named b (at_home w.jobs p (Request.ask p (get_of target key) mode)))) is;
      performs = subst (λ (x : Event). AnswersLine w x text v) e answers;
    }

-- ---- the nodes are named

pub opens_there : (s : Phase) (names : List (List ℕ)) (text : List ℕ) (jobs : Jobs) → s ≡ phases.Fresh → first_of (new_cause names) (opened names) ≡ Ok jobs → text ≡ ok_line
    → OpensAt s names text (phases.Registering jobs)
unfolding OpensAt
opens_there s names text jobs fresh is line =
    subst (λ (p : Phase). OpensAt p names text (phases.Registering jobs)) (sym fresh)
    (subst (λ (r : Result Jobs Refusal). Opens r text (phases.Registering jobs)) (sym is) (line, refl))

pub refused_there : (s : Phase) (names : List (List ℕ)) (text : List ℕ) (e : Refusal) → s ≡ phases.Fresh → first_of (new_cause names) (opened names) ≡ Err e → text ≡ refused_line e
    → OpensAt s names text phases.Over
unfolding OpensAt
refused_there s names text e fresh is line =
    subst (λ (p : Phase). OpensAt p names text phases.Over) (sym fresh) (subst (λ (r : Result Jobs Refusal). Opens r text phases.Over) (sym is) (line, refl))

pub not_fresh : (s : Phase) (names : List (List ℕ)) (text : List ℕ) (v : Phase) → (s ≡ phases.Fresh → ⊥) → OpensAt s names text v → ⊥
unfolding OpensAt
not_fresh phases.Fresh names text v some h = some refl
not_fresh (phases.Registering jobs) names text v some h = h
not_fresh (phases.Running w) names text v some h = h
not_fresh phases.Over names text v some h = h

-- ---- namespaces

pub registers_there : (s : Phase) (jobs more : Jobs) (nspace homes text : List ℕ) → s ≡ phases.Registering jobs → with_named_space jobs nspace homes ≡ Ok more → text ≡ ok_line
    → RegistersAt s nspace homes text (phases.Registering more)
unfolding RegistersAt
registers_there s jobs more nspace homes text is ok line =
    subst (λ (p : Phase). RegistersAt p nspace homes text (phases.Registering more)) (sym is)
    (rw ok (line, refl))

pub keeps_there : (s : Phase) (jobs left : Jobs) (nspace homes text : List ℕ) (e : Refusal) → s ≡ phases.Registering jobs → with_named_space jobs nspace homes ≡ Err e → left ≡ jobs → text ≡ refused_line e
    → RegistersAt s nspace homes text (phases.Registering left)
unfolding RegistersAt
keeps_there s jobs left nspace homes text e is err same line =
    subst (λ (p : Phase). RegistersAt p nspace homes text (phases.Registering left)) (sym is)
    (rw err (line, ap phases.Registering same))

pub not_registering : (s : Phase) (nspace homes text : List ℕ) (v : Phase) → ((jobs : Jobs) → s ≡ phases.Registering jobs → ⊥) → RegistersAt s nspace homes text v → ⊥
unfolding RegistersAt
not_registering phases.Fresh nspace homes text v none h = h
not_registering (phases.Registering jobs) nspace homes text v none h = none jobs refl
not_registering (phases.Running w) nspace homes text v none h = h
not_registering phases.Over nspace homes text v none h = h

-- ---- what is asked of the world

pub runs_there : (s : Phase) (w u : GroupState) (line : Line) (text : List ℕ) → s ≡ phases.Running w → Runs w line text u → RunsAt s line text (phases.Running u)
unfolding RunsAt
runs_there s w u line text is runs = subst (λ (p : Phase). RunsAt p line text (phases.Running u)) (sym is) (record { after = u; runs = runs; left = refl })

pub starts_there : (s : Phase) (jobs : Jobs) (w u : GroupState) (line : Line) (text : List ℕ) → s ≡ phases.Registering jobs → IsNew jobs w → Runs w line text u
    → RunsAt s line text (phases.Running u)
unfolding RunsAt
starts_there s jobs w u line text is new runs =
    subst (λ (p : Phase). RunsAt p line text (phases.Running u)) (sym is) (record { world = w; is_new = new; runs = record { after = u; runs = runs; left = refl } })

runs_nothing : (w : GroupState) (line : Line) (text : List ℕ) (v : Phase) → AsksNothing w line → RunsOn w line text v → ⊥
unfolding AsksNothing
runs_nothing w line text v none on = none-some on.runs.asked (sym none ∙ on.runs.asks)

pub nothing_runs : (s : Phase) (w : GroupState) (line : Line) → s ≡ phases.Running w → AsksNothing w line → (text : List ℕ) (v : Phase) → RunsAt s line text v → ⊥
unfolding RunsAt
nothing_runs s w line is none text v runs = runs_nothing w line text v none (subst (λ (p : Phase). RunsAt p line text v) is runs)

pub nothing_starts : (s : Phase) (jobs : Jobs) (w : GroupState) (line : Line) → s ≡ phases.Registering jobs → IsNew jobs w → AsksNothing w line
    → (text : List ℕ) (v : Phase) → RunsAt s line text v → ⊥
unfolding RunsAt AsksNothing
nothing_starts s jobs w line is new none text v runs = go (subst (λ (p : Phase). RunsAt p line text v) is runs)
  where
    go : RunsAt (phases.Registering jobs) line text v → ⊥
    go starts =
        let same : starts.world.jobs ≡ w.jobs = starts.is_new.jobs_are ∙ sym new.jobs_are in
        runs_nothing starts.world line text v (ap (λ (j : Jobs). line_asks j line) same ∙ none) starts.runs

pub closed : (s : Phase) (line : Line) → ((w : GroupState) → s ≡ phases.Running w → ⊥) → ((jobs : Jobs) → s ≡ phases.Registering jobs → ⊥)
    → (text : List ℕ) (v : Phase) → RunsAt s line text v → ⊥
unfolding RunsAt
closed phases.Fresh line running registering text v runs = runs
closed (phases.Registering jobs) line running registering text v runs = registering jobs refl
closed (phases.Running w) line running registering text v runs = running w refl
closed phases.Over line running registering text v runs = runs

-- ---- phases

pub at_phase : (s t : Phase) (nspace homes text : List ℕ) (v : Phase) → s ≡ t → RegistersAt t nspace homes text v → RegistersAt s nspace homes text v
at_phase s t nspace homes text v is h = subst (λ (p : Phase). RegistersAt p nspace homes text v) (sym is) h

-- ---- lines

said_there : (s : Phase) (content : List ℕ) (line : Line) (text : List ℕ) (v : Phase) → said content ≡ Some line → Plays s line text v → PlaysLine s content text v
unfolding PlaysLine
said_there s content line text v is plays = subst (λ (l : Option Line). PlaysSaid s l text v) (sym is) plays

pub plays_nothing : (s : Phase) (content text : List ℕ) → said content ≡ Some Line.nothing → text ≡ [] → PlaysLine s content text s
unfolding Plays
plays_nothing s content text is none = said_there s content Line.nothing text s is (none, refl)

pub plays_nodes : (s : Phase) (content : List ℕ) (names : List (List ℕ)) (text : List ℕ) (v : Phase) → said content ≡ Some (Line.nodes names) → OpensAt s names text v → PlaysLine s content text v
unfolding Plays
plays_nodes s content names text v is opens = said_there s content (Line.nodes names) text v is opens

pub plays_space : (s : Phase) (content nspace homes text : List ℕ) (v : Phase) → said content ≡ Some (Line.space nspace homes) → RegistersAt s nspace homes text v → PlaysLine s content text v
unfolding Plays
plays_space s content nspace homes text v is registers = said_there s content (Line.space nspace homes) text v is registers

no_run : (s : Phase) (line : Line) (text : List ℕ) (v : Phase) → ((jobs : Jobs) → line_asks jobs line ≡ None) → RunsAt s line text v → ⊥
unfolding RunsAt
no_run phases.Fresh line text v none h = h
no_run (phases.Registering jobs) line text v none h = none-some h.runs.runs.asked (sym (none h.world.jobs) ∙ h.runs.runs.asks)
no_run (phases.Running w) line text v none h = none-some h.runs.asked (sym (none w.jobs) ∙ h.runs.asks)
no_run phases.Over line text v none h = h

plays_on : (s : Phase) (line : Line) (text : List ℕ) (v : Phase) → RunsAt s line text v → Plays s line text v
unfolding Plays line_asks
plays_on s Line.nothing text v h = absurd (no_run s Line.nothing text v (λ jobs. refl) h)
plays_on s (Line.nodes names) text v h = absurd (no_run s (Line.nodes names) text v (λ jobs. refl) h)
plays_on s (Line.space nspace homes) text v h = absurd (no_run s (Line.space nspace homes) text v (λ jobs. refl) h)
plays_on s line text v h = h

pub plays_other : (s : Phase) (content : List ℕ) (line : Line) (text : List ℕ) (v : Phase) → said content ≡ Some line → RunsAt s line text v → PlaysLine s content text v
plays_other s content line text v is runs = said_there s content line text v is (plays_on s line text v runs)

-- ---- lines that are none

pub stops_unread : (s : Phase) (content : List ℕ) → said content ≡ None → StopsLine s content
unfolding StopsLine PlaysLine
stops_unread s content none text v plays = subst (λ (l : Option Line). PlaysSaid s l text v) none plays

stops_said : (s : Phase) (content : List ℕ) (line : Line) → said content ≡ Some line → ((text : List ℕ) (v : Phase) → Plays s line text v → ⊥) → StopsLine s content
unfolding StopsLine PlaysLine
stops_said s content line is never text v plays = never text v (subst (λ (l : Option Line). PlaysSaid s l text v) is plays)

pub stops_nodes : (s : Phase) (content : List ℕ) (names : List (List ℕ)) → said content ≡ Some (Line.nodes names) → ((text : List ℕ) (v : Phase) → OpensAt s names text v → ⊥) → StopsLine s content
unfolding Plays
stops_nodes s content names is never = stops_said s content (Line.nodes names) is never

pub stops_space : (s : Phase) (content nspace homes : List ℕ) → said content ≡ Some (Line.space nspace homes) → ((text : List ℕ) (v : Phase) → RegistersAt s nspace homes text v → ⊥)
    → StopsLine s content
unfolding Plays
stops_space s content nspace homes is never = stops_said s content (Line.space nspace homes) is never

-- the line asks something of the world
other_runs : (line : SaidLine) → (line ≡ said_lines.Nothing → ⊥) → ((names : Vec (Bor (List ℕ)) Global) → line ≡ said_lines.Nodes names → ⊥)
    → ((nspace : Bor (List ℕ)) (homes : Vec ℕ Global) → line ≡ said_lines.Space nspace homes → ⊥) → (s : Phase) (text : List ℕ) (v : Phase) → Plays s (line_of line) text v → RunsAt s (line_of line) text v
unfolding Plays
other_runs said_lines.Nothing nothing nodes space s text v h = absurd (nothing refl)
other_runs (said_lines.Nodes names) nothing nodes space s text v h = absurd (nodes names refl)
other_runs (said_lines.Space nspace homes) nothing nodes space s text v h = absurd (space nspace homes refl)
other_runs line nothing nodes space s text v h = h

pub stops_other : (s : Phase) (content : List ℕ) (line : SaidLine) → (line ≡ said_lines.Nothing → ⊥) → ((names : Vec (Bor (List ℕ)) Global) → line ≡ said_lines.Nodes names → ⊥)
    → ((nspace : Bor (List ℕ)) (homes : Vec ℕ Global) → line ≡ said_lines.Space nspace homes → ⊥) → said content ≡ Some (line_of line)
    → ((text : List ℕ) (v : Phase) → RunsAt s (line_of line) text v → ⊥) → StopsLine s content
stops_other s content line nothing nodes space is never =
    stops_said s content (line_of line) is (λ text v plays. never text v (other_runs line nothing nodes space s text v plays))

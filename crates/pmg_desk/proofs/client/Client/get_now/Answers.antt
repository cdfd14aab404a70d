use Rattle.std.proofs.Common.{rules, ◌≡◌, false, true, Result, Ok, subst}
use Rattle.std.specs.Prelude.{◌==◌}
use Rattle.pmg_value.specs.CheckOrder.{first_of}
use Rattle.pmg_value.specs.Names.{is_reserved}
use Rattle.pmg_value.specs.declared.refusal.Refusal.{Refusal}
use Rattle.pmg_commit.specs.Data.{read_at}
use Rattle.pmg_get.specs.Gets.{resolve}
use Rattle.pmg_get.specs.declared.view.Mode.TheVariants as modes
use Rattle.pmg_jobinfo.specs.Jobs.{home_of}
use Rattle.pmg_node_parts.specs.Calls.{get_of}
use Rattle.pmg_publish.specs.Publications.{far_of, near_of}
use Rattle.pmg_node_model.specs.Acts.{reply_of}
use Rattle.pmg_node_model.specs.Holdings.{plain_seen}
use Rattle.pmg_desk.specs.Clients.{Client, proc_of}
use Rattle.pmg_desk.specs.Reading.{GivesDue, IsDueOrClosed, is_own_key, now_cause, reserved_seen}
use Rattle.pmg_desk.proofs.ReadLemmas.{read_plain, read_reserved}
use Rattle.pmg_desk.proofs.client.Client.get_now.Goals as goal

pub returns-then-is_reserved-clause-answer : goal.returns-then-is_reserved-clause-answer
returns-then-is_reserved-clause-answer c =
    let d : Client = c.args.self.now in
    let get = get_of c.args.target.now c.args.key.now in
    let free : ◌≡◌ {A = Result (Unit {0}) Refusal} (Ok tt) (first_of (now_cause d get) tt) = search rules in
    let other : is_own_key (proc_of d) get ≡ false = search rules in
    let key : is_reserved get.key ≡ true = search rules in
    let due : GivesDue c.reserved_now.result (reply_of (resolve (reserved_seen d.jobs d.node get) modes.Now)) =
    subst (λ (x : Client). GivesDue c.reserved_now.result (reply_of (resolve (reserved_seen x.jobs x.node get) modes.Now))) c.self.view_is c.reserved_now.ensures in
    read_reserved d d get c.reserved_now.result free other key due

pub returns-clause-answer : goal.returns-clause-answer
returns-clause-answer c =
    let d : Client = c.args.self.now in
    let get = get_of c.args.target.now c.args.key.now in
    let free : ◌≡◌ {A = Result (Unit {0}) Refusal} (Ok tt) (first_of (now_cause d get) tt) = search rules in
    let other : is_own_key (proc_of d) get ≡ false = search rules in
    let key : is_reserved get.key ≡ false = search rules in
    let jobs = c.self.inside.desk.now.place.registry in
    let id = c.self.inside.desk.now.place.node in
    let near = near_of c.plain_now.new.viewer.log in
    let far = far_of c.plain_now.new.viewer.log in
    let home : c.eq.result ≡ (home_of jobs get.target == id) = search rules in
    let due : IsDueOrClosed c.plain_now.result (reply_of (resolve (plain_seen d.jobs d.node (read_at near get.target) (read_at far get.target) get) modes.Now)) =
    subst (λ (x : Client). IsDueOrClosed c.plain_now.result (reply_of (resolve (plain_seen x.jobs x.node (read_at near get.target) (read_at far get.target) get) modes.Now))) c.self.view_is
    (c.plain_now.ensures.answer jobs id home) in
    let later : Client = record { jobs = jobs; node = id; viewer = c.plain_now.new.viewer; known = c.self.inside.known; transcript = c.self.inside.notes } in
    read_plain d later get c.plain_now.result free other key due

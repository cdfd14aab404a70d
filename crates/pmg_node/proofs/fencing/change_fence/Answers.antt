use Rattle.std.proofs.Common.{◌≡◌, List, [], ◌++◌, sym, ap, subst, ◌∙◌}
use Rattle.std.specs.List.{flat_map}
use Rattle.pmg_frame.specs.Fences.{Header}
use Rattle.pmg_fence.specs.Changes.{news, taken}
use Rattle.pmg_fence.specs.Codes.{Known}
use Rattle.pmg_fence.specs.Kept.{noted_by, placed_by}
use Rattle.pmg_fence.specs.TakenBack.{CanRollTableBack}
use Rattle.pmg_node_parts.specs.Answering.{AreAnswers}
use Rattle.pmg_node_parts.specs.Owns.{sealed_of}
use Rattle.pmg_node_parts.specs.Telling.{announcing_by}
use Rattle.pmg_node.specs.Fencing.{fence_noted, fence_dues}
use Rattle.pmg_node_model.specs.Choosing.{sends}
use Rattle.pmg_node_model.specs.Kept.{is_in}
use Rattle.pmg_node.proofs.FenceLemmas.{can_take_back}
use Rattle.pmg_node.proofs.ForgettingLemmas.{answers_then}
use Rattle.pmg_fence.proofs.NewsLemmas.{news-placed_by}
use Rattle.pmg_node.proofs.fencing.change_fence.Goals as goal

pub rollback-requires : goal.rollback-requires
rollback-requires c =
    let before = c.in_ok-before.before in
    subst (λ (k : Known). CanRollTableBack k before) (sym c.take_headers-news.ensures.rest) (can_take_back c.note.new.self before c.in_ok-before.ensures.fits)

pub returns-clause-calls : goal.returns-clause-calls
returns-clause-calls c h table near far =
    let name = c.args.name.now in
    let board = c.args.around.now.board.now in
    let noted = noted_by c.args.table.now.fences name c.args.change in
    let now : c.take_headers-news.new.self ≡ fence_noted c.args.table.now name c.args.change = c.take_headers-news.ensures.rest ∙ ap (λ (k : Known). taken k []) c.in_ok-before.ensures.ok in
    c.answer.ensures
    ∙ answers_then c.args.table.now.jobs c.args.around.now.id name noted board.near board.far c.args.calls.now c.in-Ok.answers.items
    (subst (λ (k : Known). AreAnswers k.jobs c.args.around.now.id (is_in name) k.fences board.near board.far c.args.calls.now c.in-Ok.answers.items) now c.in-Ok.ensures.answers) h table near far

-- what is due are the own headers that come to exist by the change
dues_are : (c : goal.After-drop-before)
    → flat_map (announcing_by c.take_headers-news.new.self.jobs c.args.around.now.id) c.take_headers-news.result.items ≡ fence_dues c.args.table.now c.args.name.now c.args.change
dues_are c =
    let k = c.args.table.now in
    let name = c.args.name.now in
    let now : c.take_headers-news.new.self ≡ fence_noted k name c.args.change = c.take_headers-news.ensures.rest ∙ ap (λ (x : Known). taken x []) c.in_ok-before.ensures.ok in
    let told : k.waiting ≡ [] = c.requires.told in
    let new : c.take_headers-news.result.items ≡ news k.jobs k.node k.fences (placed_by k.fences name c.args.change) name =
    c.take_headers-news.ensures.headers
    ∙ ap (λ (x : Known). x.waiting) c.in_ok-before.ensures.ok
    ∙ ap (λ (hs : List Header). hs ++ news k.jobs k.node k.fences (noted_by k.fences name c.args.change) name) told
    ∙ sym (news-placed_by k name c.args.change) in
    λ i. flat_map (announcing_by (now i).jobs (sym c.requires.node i)) (new i)

pub returns-clause-marks : goal.returns-clause-marks
returns-clause-marks c = c.in-Ok.ensures.marks ∙ ap (λ dues. (sends (sealed_of c.args.around.now.own.now) c.args.marks.now dues).marks) (dues_are c)

pub returns-clause-sent : goal.returns-clause-sent
returns-clause-sent c = c.in-Ok.ensures.sent ∙ ap (λ dues. c.args.out.now.items ++ (sends (sealed_of c.args.around.now.own.now) c.args.marks.now dues).frames) (dues_are c)

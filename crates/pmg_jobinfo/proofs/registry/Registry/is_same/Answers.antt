use Rattle.std.proofs.Common.{sym}
use Rattle.std.specs.Cmp.Lexicographic.{pointwise_decides, bytes_decides}
use Rattle.pmg_jobinfo.proofs.SpaceLemmas.{same_groups, other_groups}
use Rattle.pmg_jobinfo.proofs.registry.Registry.is_same.Goals as goal

pub returns-then-eq : goal.returns-then-eq
returns-then-eq c =
    let a = c.self.inside in
    let b = c.other.inside in
    same_groups a.nodes.items b.nodes.items a.spaces.entries b.spaces.entries c.args.self.now c.args.other.now c.self.view_is c.other.view_is
    ((pointwise_decides bytes_decides a.nodes.items b.nodes.items).0 (sym c.if-eq.ensures)) c.are_same_spaces.result c.are_same_spaces.ensures

pub returns-else-eq : goal.returns-else-eq
returns-else-eq c =
    let a = c.self.inside in
    let b = c.other.inside in
    other_groups a.nodes.items b.nodes.items a.spaces.entries b.spaces.entries c.args.self.now c.args.other.now c.self.view_is c.other.view_is
    (sym c.if-eq.ensures) c.eq.result c.if-eq.false

use Rattle.std.proofs.Common.{Bor, refl, sym, subst, ap, ◌∙◌}
use Rattle.std.specs.Option.{option_map}
use Rattle.pmg_frame.specs.declared.local.Local.{Local}
use Rattle.pmg_fence.specs.Tables.{fence_of}
use Rattle.pmg_fence.specs.Codes.{Known, AllSeries}
use Rattle.pmg_fence.specs.Kept.{known_of, changed_with, CanChange, IsKept}
use Rattle.pmg_fence.proofs.KeptLemmas.{kept_own, own_there, kept_waiting, kept_changed}
use Rattle.pmg_fence.proofs.TellLemmas.{change_done}
use Rattle.pmg_fence.proofs.table.Table.change.Goals as goal

pub invariant_of-self-2 : goal.invariant_of-self-2
invariant_of-self-2 c =
    kept_own (known_of c.self.inside.registry c.self.inside.node c.self.inside.series c.self.inside.ends c.self.inside.waiting.items) c.self.inside.owns c.keep_own.new.owns c.args.signature.now c.self.invariant
    c.in_ok-keep_own.ensures.ok

pub invariant_of-self-in_err-news : goal.invariant_of-self-in_err-news
invariant_of-self-in_err-news c =
    kept_own (known_of c.self.inside.registry c.self.inside.node c.self.inside.series c.self.inside.ends c.self.inside.waiting.items) c.self.inside.owns c.keep_own.new.owns c.args.signature.now c.self.invariant
    c.in_ok-keep_own.ensures.ok

pub invariant_of-self-in_err-append : goal.invariant_of-self-in_err-append
invariant_of-self-in_err-append c =
    let old = known_of c.self.inside.registry c.self.inside.node c.self.inside.series c.self.inside.ends c.self.inside.waiting.items in
    kept_waiting old c.keep_own.new.owns c.append.new.self.items (kept_own old c.self.inside.owns c.keep_own.new.owns c.args.signature.now c.self.invariant c.in_ok-keep_own.ensures.ok)

pub invariant_of-self-in-Err : goal.invariant_of-self-in-Err
invariant_of-self-in-Err c =
    let old = known_of c.self.inside.registry c.self.inside.node c.self.inside.series c.self.inside.ends c.self.inside.waiting.items in
    subst (λ (all : AllSeries). IsKept (known_of c.self.inside.registry c.self.inside.node all c.self.inside.ends c.truncate.new.self.items) c.keep_own.new.owns) (sym c.in-Err.ensures.err)
    (kept_waiting old c.keep_own.new.owns c.truncate.new.self.items (kept_own old c.self.inside.owns c.keep_own.new.owns c.args.signature.now c.self.invariant c.in_ok-keep_own.ensures.ok))

pub invariant_of-self-in-Ok : goal.invariant_of-self-in-Ok
invariant_of-self-in-Ok c =
    let f = fence_of c.args.signature.now c.args.instance in
    let line = option_map (λ (l : Bor Local). l.now) c.args.line in
    let old = known_of c.self.inside.registry c.self.inside.node c.self.inside.series c.self.inside.ends c.self.inside.waiting.items in
    subst (λ (k : Known). IsKept k c.keep_own.new.owns)
    (sym (change_done old f c.args.change line
    c.self.inside.registry c.self.inside.node c.self.inside.series c.change.new.self c.self.inside.ends c.self.inside.waiting.items _ c.append.new.self.items
    refl c.in-Ok.ensures.ok c.in_ok-news.ensures c.in_ok-append.ensures.items))
    (kept_changed old c.keep_own.new.owns f c.args.change line (kept_own old c.self.inside.owns c.keep_own.new.owns c.args.signature.now c.self.invariant c.in_ok-keep_own.ensures.ok)
    (own_there old c.self.inside.owns c.keep_own.new.owns c.args.signature.now c.in_ok-keep_own.ensures.ok) c.requires.number
    (subst (λ (k : Known). CanChange k.fences f c.args.change) (sym c.self.view_is) c.requires.change))

pub returns-clause-ok : goal.returns-clause-ok
returns-clause-ok c =
    let f = fence_of c.args.signature.now c.args.instance in
    let line = option_map (λ (l : Bor Local). l.now) c.args.line in
    let old = known_of c.self.inside.registry c.self.inside.node c.self.inside.series c.self.inside.ends c.self.inside.waiting.items in
    change_done old f c.args.change line
    c.self.inside.registry c.self.inside.node c.self.inside.series c.change.new.self c.self.inside.ends c.self.inside.waiting.items _ c.append.new.self.items
    refl c.in-Ok.ensures.ok c.in_ok-news.ensures c.in_ok-append.ensures.items
    ∙ ap (λ k. changed_with k f c.args.change line) c.self.view_is

use Rattle.std.proofs.Common.{◌≡◌, ◌++◌, length, IsTrue, refl, sym, ◌∙◌}
use Rattle.std.specs.Int.{w32, w64, to_be_bytes}
use Rattle.std.specs.List.{flat_map, list_all}
use Rattle.std.proofs.lemmas.Result.{on_ok_weaker}
use Rattle.pmg_value.specs.Names.{is_nspace}
use Rattle.pmg_value.specs.declared.process.Proc.{Proc}
use Rattle.pmg_value.proofs.SetOrder.{in_order_rises}
use Rattle.pmg_frame.specs.Fences.{participants_of}
use Rattle.pmg_frame.specs.Grammar.{IsName}
use Rattle.pmg_frame.specs.Runs.{proc_ranks, RankRun, runs_of}
use Rattle.pmg_frame.specs.RunSpelling.{run_spelling}
use Rattle.pmg_frame.specs.Spelling.{flag_spelling}
use Rattle.pmg_frame.proofs.Appending.{appended_4}
use Rattle.pmg_frame.proofs.EncodedLemmas.{each_client}
use Rattle.pmg_frame.proofs.RunFronts.{all_first}
use Rattle.pmg_frame.proofs.RunRules.{proc_ranked}
use Rattle.pmg_frame.proofs.run_writing.put_short_name.Goals as goal

pub runs_size-count-requires-clause-rising : goal.runs_size-count-requires-clause-rising
runs_size-count-requires-clause-rising c = rw c.participants-participants.ensures.value (in_order_rises c.signature.result.now.participants)

pub put_runs-requires-clause-rising : goal.put_runs-requires-clause-rising
put_runs-requires-clause-rising c = rw c.participants-participants.ensures.value (in_order_rises c.signature.result.now.participants)

pub returns-clause-bytes : goal.returns-clause-bytes
returns-clause-bytes c =
    let name = c.args.name.now in
    let rs = runs_of proc_ranks (participants_of name) in
    let is : c.participants-participants.result.now ≡ participants_of name = rw c.signature.ensures at c.participants-participants.ensures.value in
    let flag : c.put_flag.new.out.items ≡ c.args.out.now.items ++ flag_spelling name.signature.collect = rw (c.collect.ensures, c.signature-2.ensures) at c.in_ok-put_flag.ensures in
    let number : c.extend_from_slice.new.self.items ≡ c.put_flag.new.out.items ++ to_be_bytes w64 name.instance = rw (c.to_be_bytes.ensures, c.instance.ensures.value) at c.in_ok-extend_from_slice.ensures.ok in
    let count : c.extend_from_slice-2.new.self.items ≡ c.extend_from_slice.new.self.items ++ to_be_bytes w32 (length rs) = rw (c.to_be_bytes-2.ensures, c.runs_size-count.ensures.count, is) at c.in_ok-extend_from_slice-2.ensures.ok in
    on_ok_weaker c.put_runs.result
    (λ (e : c.put_runs.new.out.items ≡ c.extend_from_slice-2.new.self.items ++ flat_map run_spelling rs).
    appended_4 c.args.out.now.items c.put_flag.new.out.items c.extend_from_slice.new.self.items c.extend_from_slice-2.new.self.items c.put_runs.new.out.items
    (flag_spelling name.signature.collect) (to_be_bytes w64 name.instance) (to_be_bytes w32 (length rs)) (flat_map run_spelling rs) flag number count e)
    (rw is at c.put_runs.ensures.bytes)

pub returns-clause-valid : goal.returns-clause-valid
returns-clause-valid c =
    let name = c.args.name.now in
    let ps = participants_of name in
    let is : c.participants-participants.result.now ≡ ps = rw c.signature.ensures at c.participants-participants.ensures.value in
    let valid : IsTrue (list_all (λ (r : RankRun Proc). is_nspace r.first.nspace) (runs_of proc_ranks ps)) → IsName name = λ names. record {
      number = rw c.instance.ensures.value at c.instance.ensures.bound;
      some = rw is at c.participants-participants.ensures.some;
      few = rw is at c.participants-participants.ensures.few;
      clients = each_client ps (sym (all_first proc_ranks proc_ranked (λ p. is_nspace p.nspace) (λ p n. refl) ps) ∙ names) (rw is at c.participants-participants.ensures.clients);
    } in
    on_ok_weaker c.put_runs.result valid (rw is at c.put_runs.ensures.names)

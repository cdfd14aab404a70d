use Rattle.std.proofs.Common.{◌≡◌, ◌++◌, length, IsTrue}
use Rattle.std.specs.Int.{w32, w64, to_be_bytes}
use Rattle.std.specs.List.{flat_map}
use Rattle.std.proofs.lemmas.Result.{on_ok_weaker}
use Rattle.pmg_wire.specs.Spelling.{proc_spelling}
use Rattle.pmg_frame.specs.Fences.{participants_of}
use Rattle.pmg_frame.specs.Spelling.{flag_spelling}
use Rattle.pmg_frame.proofs.Appending.{appended_4}
use Rattle.std.specs.List.{list_all}
use Rattle.pmg_value.specs.Names.{is_nspace}
use Rattle.pmg_value.specs.declared.process.Proc.{Proc}
use Rattle.pmg_frame.specs.Grammar.{IsName}
use Rattle.pmg_frame.proofs.EncodedLemmas.{each_client}
use Rattle.pmg_frame.proofs.writing.put_name.Goals as goal

pub returns-clause-bytes : goal.returns-clause-bytes
returns-clause-bytes c =
    let name = c.args.name.now in
    let is : c.participants-participants.result.now ≡ participants_of name = rw c.signature.ensures at c.participants-participants.ensures.value in
    let flag : c.put_flag.new.out.items ≡ c.args.out.now.items ++ flag_spelling name.signature.collect = rw (c.collect.ensures, c.signature-2.ensures) at c.in_ok-put_flag.ensures in
    let number : c.extend_from_slice.new.self.items ≡ c.put_flag.new.out.items ++ to_be_bytes w64 name.instance = rw (c.to_be_bytes.ensures, c.instance.ensures.value) at c.in_ok-extend_from_slice.ensures.ok in
    let count : c.extend_from_slice-2.new.self.items ≡ c.extend_from_slice.new.self.items ++ to_be_bytes w32 (length (participants_of name)) = rw (c.to_be_bytes-2.ensures, is) at c.in_ok-extend_from_slice-2.ensures.ok in
    on_ok_weaker c.put_procs.result
    (λ (e : c.put_procs.new.out.items ≡ c.extend_from_slice-2.new.self.items ++ flat_map proc_spelling (participants_of name)).
    appended_4 c.args.out.now.items c.put_flag.new.out.items c.extend_from_slice.new.self.items c.extend_from_slice-2.new.self.items c.put_procs.new.out.items
    (flag_spelling name.signature.collect) (to_be_bytes w64 name.instance) (to_be_bytes w32 (length (participants_of name))) (flat_map proc_spelling (participants_of name)) flag number count e)
    (rw is at c.put_procs.ensures.bytes)

pub returns-clause-valid : goal.returns-clause-valid
returns-clause-valid c =
    let name = c.args.name.now in
    let is : c.participants-participants.result.now ≡ participants_of name = rw c.signature.ensures at c.participants-participants.ensures.value in
    let valid : IsTrue (list_all (λ (p : Proc). is_nspace p.nspace) (participants_of name)) → IsName name = λ names. record {
      number = rw c.instance.ensures.value at c.instance.ensures.bound;
      some = rw is at c.participants-participants.ensures.some;
      few = rw is at c.participants-participants.ensures.few;
      clients = each_client (participants_of name) names (rw is at c.participants-participants.ensures.clients);
    } in
    on_ok_weaker c.put_procs.result valid (rw is at c.put_procs.ensures.names)

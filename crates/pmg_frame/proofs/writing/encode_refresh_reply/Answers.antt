use Rattle.std.proofs.Common.{◌≡◌, ◌++◌, [], length, sym, ◌∙◌, arith}
use Rattle.pmg_frame.specs.Spelling.{refresh_reply_body}
use Rattle.pmg_frame.specs.Versions.{head_spelling}
use Rattle.pmg_frame.proofs.RefreshTests.{length-reply_body}
use Rattle.pmg_frame.proofs.Appending.{appended_2}
use Rattle.pmg_frame.proofs.writing.encode_refresh_reply.Goals as goal

pub returns-clause-bytes : goal.returns-clause-bytes
returns-clause-bytes c =
    let body = refresh_reply_body c.args.reply.now in
    let size : c.size-size.result ≡ length body = c.size-size.ensures.value ∙ sym (length-reply_body c.args.reply.now) in
    let head : c.put_head.new.out.items ≡ [] ++ head_spelling c.args.version 6 (length body) = rw (c.in_ok-out.ensures.items, size) at c.in_ok-put_head.ensures in
    appended_2 [] c.put_head.new.out.items c.put_refresh_reply.new.out.items (head_spelling c.args.version 6 (length body)) body head c.in_ok-put_refresh_reply.ensures.bytes

pub returns-clause-small : goal.returns-clause-small
returns-clause-small c = omega (arith, length-reply_body c.args.reply.now, c.size-size.ensures.value, c.size-size.ensures.bound)

-- The progress of reading a transcript, by one call.
use Rattle.std.specs.Prelude.{◌≡◌, ◌++◌, map}
use Rattle.pmg_value.specs.declared.process.Proc.{Proc}
use Rattle.pmg_journal.specs.Transcripts.{Noted, cached_by}
use Rattle.pmg_audit.specs.Codes.{audited_put, audited_due}
use Rattle.pmg_audit.specs.Dues.{act_said, due_of, puts_next}
use Rattle.pmg_audit.specs.declared.sayings.Reading.{Reading}

-- the effect of the process's next call
pub record ReadsCall (p : Proc) (old : Reading) (n : Noted) (new : Reading) : Type 0 where
  pub cache : new.cache ≡ cached_by old.cache n.call n.reply
  pub puts : map audited_put new.puts.items ≡ puts_next (map audited_put old.puts.items) n (act_said p old.cache n)
  pub dues : map audited_due new.dues.items ≡ map audited_due old.dues.items ++ due_of (map audited_put old.puts.items) n.reply (act_said p old.cache n)

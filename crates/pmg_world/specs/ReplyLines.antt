-- The reply lines of a script.
use Rattle.std.specs.Prelude.{ℕ, Bool, true, false, List, [], ◌∷◌, ◌++◌, codes, decimal, Ok, Err, Result}
use Rattle.std.specs.List.{join_by}
use Rattle.pmg_value.specs.RefusalText.{refusal_text}
use Rattle.pmg_value.specs.Text.{text_of}
use Rattle.pmg_value.specs.declared.process.Proc.{Proc}
use Rattle.pmg_value.specs.declared.refusal.Fault.{Fault}
use Rattle.pmg_value.specs.declared.value.Value.{Value}
use Rattle.pmg_wire.specs.Fields.{whole_value}
use Rattle.pmg_node_model.specs.Acts.{Reply}

-- a process, as `j/2`
unfoldable pub proc_text : Proc → List ℕ
proc_text p = p.nspace ++ (codes "/" ++ decimal p.rank)

-- processes, with commas between them; `-` for an empty list
unfoldable pub list_text : List Proc → List ℕ
list_text [] = codes "-"
list_text (p ∷ ps) = join_by proc_text (codes ",") (p ∷ ps)

-- the text of a decoded value
abbrev pub found_text : Result Value Fault → List ℕ
found_text (Ok v) = text_of v
found_text (Err f) = []

-- the words for the change of a set
abbrev pub change_text : Bool → List ℕ
change_text true = codes "deleted "
change_text false = codes "defined "

-- The line of a reply. The flag says whether the request was the deletion of a set. A value is given by its canonical bytes.
unfoldable pub reply_line : Bool → Reply → List ℕ
reply_line deletes (Reply.refused e) = codes "refused " ++ (refusal_text e ++ codes "\n")
reply_line deletes Reply.done = codes "ok\n"
reply_line deletes (Reply.committed n) = codes "commit " ++ (decimal n ++ codes "\n")
reply_line deletes (Reply.entered k) = codes "entered " ++ (decimal k ++ codes "\n")
reply_line deletes Reply.idle = codes "idle\n"
reply_line deletes Reply.waiting = codes "waiting\n"
reply_line deletes (Reply.released k gone) = codes "released " ++ (decimal k ++ (codes " gone " ++ (list_text gone ++ codes "\n")))
reply_line deletes (Reply.found bytes) = codes "found " ++ (found_text (whole_value bytes) ++ codes "\n")
reply_line deletes Reply.parked = codes "parked\n"
reply_line deletes Reply.taken = codes "delivered 1\n"
reply_line deletes Reply.ignored = codes "delivered 1\n"
reply_line deletes (Reply.ended n) = codes "ended " ++ (decimal n ++ codes "\n")
reply_line deletes (Reply.defined n) = change_text deletes ++ (decimal n ++ codes "\n")

-- the line with the number of delivered frames
unfoldable pub flow_line : ℕ → List ℕ
flow_line count = codes "delivered " ++ (decimal count ++ codes "\n")

-- the line with the members of a set
unfoldable pub members_line : List Proc → List ℕ
members_line members = codes "members " ++ (list_text members ++ codes "\n")

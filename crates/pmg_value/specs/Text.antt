-- A value's text, as a dump shows it.
use Rattle.std.specs.Prelude.{ℕ, List, ◌++◌, codes}
use Rattle.std.specs.List.{join_by}
use Rattle.pmg_value.specs.declared.value.Value.{Value}
use Rattle.pmg_value.specs.Plain.{plain_text, kind_name}
use Rattle.pmg_value.specs.Elements.{Elements}
use Rattle.pmg_value.specs.Spelling.{Form, form, tag_of}

-- an array: the name of its elements' kind, and in brackets their texts without it
abbrev pub array_text : Elements → List ℕ
array_text a = kind_name a.tag ++ (codes "[" ++ (join_by plain_text (codes ",") a.plains ++ codes "]"))

-- the text after the kind's name
abbrev pub form_text : Form → List ℕ
form_text (Form.plain p) = plain_text p
form_text (Form.array a) = array_text a

-- the kind's name, a colon, and the content
abbrev pub text_of : Value → List ℕ
text_of v = kind_name (tag_of v) ++ (codes ":" ++ form_text (form v))

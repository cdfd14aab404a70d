-- The equality of two acts, and of two replies, field by field.
use Rattle.std.specs.Prelude.{Bool, true, false, ◌&&◌, ◌==◌, not, nat_eq, ℕ, List}
use Rattle.std.specs.Cmp.Lexicographic.{pointwise, slice_cmp}
use Rattle.std.specs.Ordering.{is_eq, nat_cmp}
use Rattle.pmg_value.specs.Process.{is_same_proc}
use Rattle.pmg_value.specs.Refusals.{number_of}
use Rattle.pmg_value.specs.contracts.refusal.CausePartialEq.TheImpl as cause_tests
use Rattle.pmg_value.specs.declared.process.Proc.{Proc}
use Rattle.pmg_value.specs.declared.refusal.Refusal.{Refusal}
use Rattle.pmg_value.specs.declared.refusal.Refusal.TheVariants as refusals
use Rattle.pmg_get.specs.contracts.view.ModePartialEq.TheImpl as mode_tests
use Rattle.pmg_node_model.specs.Acts.{Reply, Request}

-- the flags are equal
abbrev pub is_same_flag : Bool → Bool → Bool
is_same_flag true other = other
is_same_flag false other = not other

-- the lists of processes are equal
abbrev pub are_same_procs : List Proc → List Proc → Bool
are_same_procs = pointwise is_same_proc

-- the texts are equal
abbrev pub is_same_text : List ℕ → List ℕ → Bool
is_same_text = pointwise nat_eq

-- the values, as their canonical bytes, are equal
abbrev pub is_same_value : List ℕ → List ℕ → Bool
is_same_value v w = is_eq (slice_cmp nat_cmp v w)

-- the requests are equal
unfoldable pub is_same_request : Request → Request → Bool
is_same_request (Request.enter p list collect) (Request.enter q others other) = is_same_proc p q && (are_same_procs list others && is_same_flag collect other)
is_same_request (Request.leave p) (Request.leave q) = is_same_proc p q
is_same_request (Request.ask p get mode) (Request.ask q other how) =
    is_same_proc p q && (is_same_proc get.target other.target && (is_same_text get.key other.key && mode_tests.ghosts.eq mode how))
is_same_request (Request.take p) (Request.take q) = is_same_proc p q
is_same_request (Request.terminate p) (Request.terminate q) = is_same_proc p q
is_same_request (Request.define name list) (Request.define other others) = is_same_text name other && are_same_procs list others
is_same_request (Request.delete name) (Request.delete other) = is_same_text name other
is_same_request Request.nudge Request.nudge = true
is_same_request _ _ = false

-- the refusals are equal
unfoldable pub is_same_refusal : Refusal → Refusal → Bool
is_same_refusal (refusals.BadFrame f) (refusals.BadFrame g) = f.offset == g.offset && cause_tests.ghosts.eq f.cause g.cause
is_same_refusal (refusals.BadFrame f) _ = false
is_same_refusal e other = number_of e == number_of other

-- the replies are equal
unfoldable pub is_same_reply : Reply → Reply → Bool
is_same_reply (Reply.refused e) (Reply.refused other) = is_same_refusal e other
is_same_reply Reply.done Reply.done = true
is_same_reply (Reply.committed n) (Reply.committed m) = n == m
is_same_reply (Reply.entered n) (Reply.entered m) = n == m
is_same_reply Reply.idle Reply.idle = true
is_same_reply Reply.waiting Reply.waiting = true
is_same_reply (Reply.released n gone) (Reply.released m others) = n == m && are_same_procs gone others
is_same_reply (Reply.found value) (Reply.found other) = is_same_value value other
is_same_reply Reply.parked Reply.parked = true
is_same_reply Reply.taken Reply.taken = true
is_same_reply Reply.ignored Reply.ignored = true
is_same_reply (Reply.ended n) (Reply.ended m) = n == m
is_same_reply (Reply.defined n) (Reply.defined m) = n == m
is_same_reply _ _ = false

-- The tests of sameness decide whether what two frames say is one.
use Rattle.std.proofs.Common.{◌≡◌, ℕ, Bool, ◌==◌, ◌&&◌, nat_eq, List, refl, sym, ap, ◌∙◌}
use Rattle.std.specs.Bool.{Decides}
use Rattle.std.specs.Cmp.Lexicographic.{pointwise, pointwise_decides, bytes_decides}
use Rattle.std.specs.Ordering.{eq_by_cmp}
use Rattle.std.proofs.lemmas.Bool.Decides.{Decides-eqb, Decides-and, Decides-like}
use Rattle.pmg_value.proofs.SameLemmas.{by_cmp}
use Rattle.pmg_value.specs.Signatures.{FenceName}
use Rattle.pmg_value.specs.Process.{is_same_proc}
use Rattle.pmg_value.specs.declared.process.Proc.{Proc}
use Rattle.pmg_commit.specs.Entries.{Entry, is_same_entry}
use Rattle.pmg_commit.proofs.SameEntries.{same_entries}
use Rattle.pmg_commit.specs.Knowledge.{Contribution}
use Rattle.pmg_frame.specs.FenceOrder.{name_cmp, name_total}
use Rattle.pmg_frame.specs.Fences.{Header, FenceAsk}
use Rattle.pmg_frame.specs.Refreshing.{RefreshReply}
use Rattle.pmg_frame.specs.Sameness.{is_same_piece, is_same_header, is_same_fence_ask, is_same_refresh_reply}
use Rattle.pmg_frame.specs.contracts.local.LocalPartialEq.TheImpl as local_tests
use Rattle.pmg_frame.specs.contracts.local.StatePartialEq.TheImpl as state_tests
use Rattle.pmg_frame.specs.declared.local.Local.{Local}
use Rattle.pmg_frame.specs.declared.local.State.{State}
use Rattle.pmg_frame.specs.declared.local.State.TheVariants as states
use Rattle.pmg_frame.specs.declared.frame.Frame.TheVariants as frames
use Rattle.pmg_frame.proofs.FenceOrderLemmas.{names_exact}

pub same_procs : (p q : Proc) → Decides (is_same_proc p q) (p ≡ q)
same_procs p q =
    let forth : (p.nspace ≡ q.nspace) × (p.rank ≡ q.rank) → p ≡ q = λ h.
    ap (λ (n : List ℕ). record { nspace = n; rank = p.rank }) h.0 ∙ ap (λ (r : ℕ). record { nspace = q.nspace; rank = r }) h.1 in
    Decides-like _ forth (λ e. (ap (λ (x : Proc). x.nspace) e, ap (λ (x : Proc). x.rank) e))
    (Decides-and (pointwise nat_eq p.nspace q.nspace) (nat_eq p.rank q.rank) (bytes_decides p.nspace q.nspace) (Decides-eqb p.rank q.rank))

pub same_pieces : (c d : Contribution) → Decides (is_same_piece c d) (c ≡ d)
same_pieces c d =
    let entries = pointwise is_same_entry c.entries d.entries in
    let forth : (c.proc ≡ d.proc) × ((c.from ≡ d.from) × ((c.to ≡ d.to) × (c.entries ≡ d.entries))) → c ≡ d = λ h.
    ap (λ (p : Proc). record { proc = p; from = c.from; to = c.to; entries = c.entries }) h.0
    ∙ ap (λ (n : ℕ). record { proc = d.proc; from = n; to = c.to; entries = c.entries }) h.1.0
    ∙ ap (λ (n : ℕ). record { proc = d.proc; from = d.from; to = n; entries = c.entries }) h.1.1.0
    ∙ ap (λ (es : List Entry). record { proc = d.proc; from = d.from; to = d.to; entries = es }) h.1.1.1 in
    Decides-like _ forth (λ x. (ap (λ (z : Contribution). z.proc) x, (ap (λ (z : Contribution). z.from) x, (ap (λ (z : Contribution). z.to) x, ap (λ (z : Contribution). z.entries) x))))
    (Decides-and (is_same_proc c.proc d.proc) (c.from == d.from && (c.to == d.to && entries)) (same_procs c.proc d.proc)
    (Decides-and (c.from == d.from) (c.to == d.to && entries) (Decides-eqb c.from d.from)
    (Decides-and (c.to == d.to) entries (Decides-eqb c.to d.to) (pointwise_decides same_entries c.entries d.entries))))

same_names : (f g : FenceName) → Decides (eq_by_cmp name_cmp f g) (f ≡ g)
same_names = by_cmp name_cmp name_total names_exact

same_states : (s t : State) → Decides (state_tests.ghosts.eq s t) (s ≡ t)
same_states states.Entered states.Entered = (λ _. refl, λ _. refl)
same_states states.Gone states.Gone = (λ _. refl, λ _. refl)
same_states states.Entered states.Gone = (λ h. absurd cc, λ h. absurd cc)
same_states states.Gone states.Entered = (λ h. absurd cc, λ h. absurd cc)

-- records of three parts are equal where the parts are
same_3 : {X A B C : Type 0} (x y : X) (a : X → A) (b : X → B) (c : X → C) (make : A → B → C → X) (s t u : Bool) → make (a x) (b x) (c x) ≡ x → make (a y) (b y) (c y) ≡ y
    → Decides s (a x ≡ a y) → Decides t (b x ≡ b y) → Decides u (c x ≡ c y) → Decides (s && (t && u)) (x ≡ y)
same_3 x y a b c make s t u x_is y_is first second third =
    let forth : (a x ≡ a y) × ((b x ≡ b y) × (c x ≡ c y)) → x ≡ y = λ h. sym x_is ∙ (λ i. make (h.0 i) (h.1.0 i) (h.1.1 i)) ∙ y_is in
    Decides-like _ forth (λ e. (ap a e, (ap b e, ap c e))) (Decides-and s (t && u) first (Decides-and t u second third))

pub same_locals : (l m : Local) → Decides (local_tests.ghosts.eq l m) (l ≡ m)
same_locals l m =
    same_3 l m (λ z. z.proc) (λ z. z.state) (λ z. z.level) (λ p s n. record { proc = p; state = s; level = n }) (is_same_proc l.proc m.proc) (state_tests.ghosts.eq l.state m.state)
    (nat_eq l.level m.level) refl refl (same_procs l.proc m.proc) (same_states l.state m.state) (Decides-eqb l.level m.level)

pub same_headers : (h k : Header) → Decides (is_same_header h k) (h ≡ k)
same_headers h k =
    same_3 h k (λ z. z.node) (λ z. z.name) (λ z. z.locals) (λ n f ls. record { node = n; name = f; locals = ls }) (h.node == k.node) (eq_by_cmp name_cmp h.name k.name)
    (pointwise local_tests.ghosts.eq h.locals k.locals) refl refl (Decides-eqb h.node k.node) (same_names h.name k.name) (pointwise_decides same_locals h.locals k.locals)

pub same_fence_asks : (a b : FenceAsk) → Decides (is_same_fence_ask a b) (a ≡ b)
same_fence_asks a b =
    let forth : (a.node ≡ b.node) × (a.name ≡ b.name) → a ≡ b = λ h.
    ap (λ (n : ℕ). record { node = n; name = a.name }) h.0 ∙ ap (λ (n : FenceName). record { node = b.node; name = n }) h.1 in
    Decides-like _ forth (λ x. (ap (λ (z : FenceAsk). z.node) x, ap (λ (z : FenceAsk). z.name) x))
    (Decides-and (a.node == b.node) (eq_by_cmp name_cmp a.name b.name) (Decides-eqb a.node b.node) (same_names a.name b.name))

pub same_refresh_replies : (r s : RefreshReply) → Decides (is_same_refresh_reply r s) (r ≡ s)
same_refresh_replies r s =
    same_3 r s (λ z. z.node) (λ z. z.request) (λ z. z.told) (λ n m c. record { node = n; request = m; told = c }) (r.node == s.node) (r.request == s.request)
    (is_same_piece r.told s.told) refl refl (Decides-eqb r.node s.node) (Decides-eqb r.request s.request) (same_pieces r.told s.told)

-- ---- frames of one kind are equal where what they carry is

pub same_piece_frames : (x y : Contribution) → Decides (is_same_piece x y) (frames.Piece x ≡ frames.Piece y)
same_piece_frames x y = Decides-like _ (λ e. ap (λ (z : Contribution). frames.Piece z) e) (λ e. cc) (same_pieces x y)

pub same_header_frames : (x y : Header) → Decides (is_same_header x y) (frames.Header x ≡ frames.Header y)
same_header_frames x y = Decides-like _ (λ e. ap (λ (z : Header). frames.Header z) e) (λ e. cc) (same_headers x y)

pub same_fence_ask_frames : (x y : FenceAsk) → Decides (is_same_fence_ask x y) (frames.FenceAsk x ≡ frames.FenceAsk y)
same_fence_ask_frames x y = Decides-like _ (λ e. ap (λ (z : FenceAsk). frames.FenceAsk z) e) (λ e. cc) (same_fence_asks x y)

pub same_refresh_reply_frames : (x y : RefreshReply) → Decides (is_same_refresh_reply x y) (frames.RefreshReply x ≡ frames.RefreshReply y)
same_refresh_reply_frames x y = Decides-like _ (λ e. ap (λ (z : RefreshReply). frames.RefreshReply z) e) (λ e. cc) (same_refresh_replies x y)

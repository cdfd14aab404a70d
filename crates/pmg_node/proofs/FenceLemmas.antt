-- Acts that change one fence.
use Rattle.std.proofs.Common.{◌≡◌, ℕ, Bool, true, false, ◌&&◌, not, cond, List, [], take, Option, Some, None, Ok, refl, sym, ap, subst, ◌∙◌}
use Rattle.std.proofs.lemmas.Bool.{false≢true}
use Rattle.std.specs.List.{flat_map}
use Rattle.std.specs.Option.{option_map}
use Rattle.pmg_value.specs.CheckOrder.{first_of}
use Rattle.pmg_value.specs.Signatures.{FenceName}
use Rattle.pmg_frame.specs.Fences.{FenceAsk, Header, header}
use Rattle.pmg_frame.specs.declared.frame.Frame.{Frame}
use Rattle.pmg_frame.specs.declared.frame.Frame.TheVariants as frames
use Rattle.pmg_frame.specs.declared.local.Local.{Local}
use Rattle.pmg_jobinfo.specs.Jobs.{Jobs}
use Rattle.pmg_dmodex.specs.Levels.{Levels}
use Rattle.pmg_dmodex.specs.Refreshes.{Refreshes}
use Rattle.pmg_fence.specs.Changes.{learned, present, news, taken}
use Rattle.pmg_fence.specs.Codes.{Known}
use Rattle.pmg_fence.specs.Kept.{placed_by}
use Rattle.pmg_fence.specs.Tables.{Fences, is_old}
use Rattle.pmg_fence.specs.TakenBack.{table_back, CanRollTableBack}
use Rattle.pmg_fence.specs.declared.change.Change.{Change}
use Rattle.pmg_fence.specs.declared.change.Change.TheVariants as changes
use Rattle.pmg_fence.specs.declared.table.TableUndo.{TableUndo}
use Rattle.pmg_fence.proofs.KeptLemmas.{kept_waiting}
use Rattle.pmg_node_model.specs.Acts.{Act, Reply, Done, done_as, cause, is_peer, is_concerned, is_complete, is_taken, receives, does}
use Rattle.pmg_node_model.specs.Choosing.{announcing, telling_of, due_by, due_by_frame, marked_by_act, sends}
use Rattle.pmg_node_parts.specs.Codes.{Calls}
use Rattle.pmg_node.specs.Content.{IsContent}
use Rattle.pmg_node.specs.declared.server.Server.TheInside.{Inside}
use Rattle.pmg_node.specs.Fencing.{fence_after, fence_dues, AreSettledIn}
use Rattle.pmg_node_model.specs.Holdings.{NodeState, mapped, with_table, with_calls, settled}
use Rattle.pmg_node_model.specs.Kept.{is_in, settle_where, DiffersIn}
use Rattle.pmg_node_parts.specs.Owns.{sealed_of}
use Rattle.pmg_node_model.specs.Sending.{is_quiet, own_header_of}
use Rattle.pmg_node.specs.Servers.{Server, reply_to, sent_by, after, IsNode}
use Rattle.pmg_node_parts.specs.Telling.{telling_by, announcing_by}
use Rattle.pmg_node_model.specs.declared.due.ToSend.{ToSend}
use Rattle.pmg_node_model.specs.declared.sent.Sent.{Sent}
use Rattle.pmg_node.proofs.ActLemmas.{accepted_reply, accepted_after, accepted_sent}
use Rattle.pmg_node.proofs.FrameLemmas.{deliver_free}
use Rattle.pmg_node_model.proofs.ChoosingNews.{present_named}
use Rattle.pmg_node.proofs.HeaderNews.{present_lists, telling_alike, news_alike}
use Rattle.pmg_node_model.proofs.KeptAgain.{settled_names, change_differs, learned_changed, header_changed}
use Rattle.pmg_node_model.proofs.LearnedAgain.{learned_again}
use Rattle.pmg_node_model.proofs.KeptSettled.{settled_same}
use Rattle.pmg_node.proofs.NodeInside.{server_in, server_with, IsInside, sends_in}
use Rattle.pmg_node.proofs.NodeKept.{node_stays}
use Rattle.pmg_node.proofs.OpenLemmas.{still_open}

-- ---- a change that is taken back

-- though its headers were taken
pub can_take_back : (k : Known) (b : TableUndo) → CanRollTableBack k b → CanRollTableBack (taken k []) b
can_take_back k b can owns kept = kept_waiting (table_back k b) owns (take b.waiting []) (can owns (kept_waiting (taken k []) owns k.waiting kept))

-- ---- a change that stays

-- with one fence changed, and with these calls
abbrev pub with_change : NodeState → FenceName → Change → Calls → NodeState
with_change h f change calls = with_calls (with_table h (placed_by h.table f change)) calls

-- The act is accepted and changes the fence, and no call of another one; what is due are the own headers that come to exist.
pub record ChangesFence (s : Server) (a : Act) (f : FenceName) (change : Change) (reply : Reply) (calls : Calls) : Type 0 where
  pub free : first_of (cause s.jobs s.id s.holding a) (tt {0}) ≡ Ok tt
  pub done : does s.jobs s.id s.holding a ≡ done_as reply (with_change s.holding f change calls)
  pub loud : is_quiet reply ≡ false
  pub differs : DiffersIn s.jobs s.id f s.holding (with_change s.holding f change calls)
  pub owes : (left : NodeState) → left.table ≡ placed_by s.holding.table f change
      → due_by s.jobs s.id s.holding a left ≡ flat_map (announcing s.jobs s.id) (news s.jobs s.id s.holding.table (placed_by s.holding.table f change) f)
  pub asked : (marks : Levels) → marked_by_act marks a ≡ marks

-- What comes of an act: the reply, what the node is then, and the frames that go out.
pub record Steps (s : Server) (a : Act) (reply : Reply) (table : Known) (id : ℕ) (anew : Refreshes) (then : Server) (frames : List Sent) : Type 0 where
  pub replied : reply_to s a ≡ reply
  pub done : then ≡ after s a
  pub sent : frames ≡ sent_by s a
  pub kept : IsContent table id anew then

-- Such an act of the node that these parts make, where a fence of that name changes so, and these are the table, the calls and
-- the marks then.
module _ (inside : Inside) (s : Server) (view : server_in inside ≡ s) (kept : IsInside inside)
    (a : Act)
    (f : FenceName)
    (change : Change)
    (reply : Reply)
    (begin : Calls → Calls)
    (act : ChangesFence s a f change reply (begin s.holding.calls))
    (name : FenceName)
    (named : name ≡ f)
    (noted : Change)
    (same : noted ≡ change)
    (ended : Calls)
    (are : AreSettledIn name inside.table.jobs inside.id (placed_by inside.table.fences name noted) inside.board.near inside.board.far (begin inside.calls) ended)
    (table_then : Known)
    (table_is : table_then ≡ fence_after inside.table name noted)
    (marks_then : Levels)
    (marks_are : marks_then ≡ (sends_in inside (fence_dues inside.table name noted)).marks) where
  abbrev begins : Server
  begins = server_in inside

  its_act : ChangesFence begins a f change reply (begin inside.calls)
  its_act = subst (λ (x : Server). ChangesFence x a f change reply (begin x.holding.calls)) (sym view) act

  abbrev left : NodeState
  left = with_change begins.holding f change ended

  loud : is_quiet (does begins.jobs begins.id begins.holding a).reply ≡ false
  loud = ap (λ (d : Done). is_quiet d.reply) its_act.done ∙ act.loud

  leaves : settled begins.jobs begins.id (does begins.jobs begins.id begins.holding a).left ≡ left
  leaves =
      let g = with_change begins.holding f change (begin inside.calls) in
      ap (λ (d : Done). settled begins.jobs begins.id d.left) its_act.done
      ∙ settled_names begins.jobs begins.id f begins.holding g kept.node.server.settled its_act.differs
      ∙ ap (with_calls g) (sym (are g (λ i. placed_by inside.table.fences (sym named i) (sym same i)) refl refl
      ∙ (λ i. mapped (settle_where inside.table.jobs inside.id g (is_in (named i))) (begin inside.calls))))

  abbrev dues : List ToSend
  dues = fence_dues inside.table f change

  owes : due_by begins.jobs begins.id begins.holding a left ≡ dues
  owes =
      its_act.owes left refl
      ∙ sym (news_alike inside.table.jobs inside.id inside.table.fences (placed_by inside.table.fences f change) f)
      ∙ ap (λ (n : ℕ). flat_map (announcing_by inside.table.jobs n) (news inside.table.jobs n inside.table.fences (placed_by inside.table.fences f change) f)) (sym kept.same)

  its_done : server_with inside table_then ended marks_then ≡ after s a
  its_done =
      (λ i. server_with inside (table_is i) ended (marks_are i))
      ∙ (λ i. server_with inside (fence_after inside.table (named i) (same i)) ended (sends (sealed_of inside.own) (sym (act.asked inside.marks) i) (fence_dues inside.table (named i) (same i))).marks)
      ∙ sym (accepted_after begins a its_act.free loud left leaves dues owes)
      ∙ ap (λ (x : Server). after x a) view

  pub fence_steps : Steps s a reply table_then inside.id inside.held.anew (server_with inside table_then ended marks_then) (sends_in inside (fence_dues inside.table name noted)).frames
  fence_steps = record {
    replied = ap (λ (x : Server). reply_to x a) (sym view) ∙ accepted_reply begins a its_act.free loud left leaves dues owes ∙ ap (λ (d : Done). d.reply) its_act.done;
    done = its_done;
    sent = (λ i. (sends (sealed_of inside.own) (sym (act.asked inside.marks) i) (fence_dues inside.table (named i) (same i))).frames)
        ∙ sym (accepted_sent begins a its_act.free loud left leaves dues owes)
        ∙ ap (λ (x : Server). sent_by x a) view;
    kept = record {
      same = ap (λ (k : Known). k.node) table_is ∙ kept.same;
      told = ap (λ (k : Known). k.waiting) table_is;
      node = subst IsNode (sym its_done) (node_stays s a (subst IsNode view kept.node));
      replies = still_open begins s view a (subst IsNode view kept.node) (server_with inside table_then ended marks_then) its_done refl inside.held.anew inside.held.anew refl kept.replies;
    };
  }

-- ---- frames

not_last : (a b : Bool) → (a && not b) ≡ true → b ≡ false
not_last true true e = absurd (false≢true e)
not_last true false e = refl
not_last false b e = absurd (false≢true e)

header_young : (jobs : Jobs) (id : ℕ) (t : Fences) (hd : Header) → is_taken jobs id t (frames.Header hd) ≡ true → is_old t hd.name ≡ false
unfolding is_taken
header_young jobs id t hd e = not_last (is_peer jobs id hd.node && is_concerned jobs id hd.name && is_complete jobs hd) (is_old t hd.name) e

ask_young : (jobs : Jobs) (id : ℕ) (t : Fences) (ask : FenceAsk) → is_taken jobs id t (frames.FenceAsk ask) ≡ true → is_old t ask.name ≡ false
unfolding is_taken
ask_young jobs id t ask e = not_last (is_peer jobs id ask.node && is_concerned jobs id ask.name) (is_old t ask.name) e

does_taken : (jobs : Jobs) (id : ℕ) (h : NodeState) (frame : Frame) → is_taken jobs id h.table frame ≡ true → does jobs id h (Act.deliver frame) ≡ done_as Reply.taken (receives jobs id h frame)
unfolding does
does_taken jobs id h frame e = ap (λ (b : Bool). cond b (done_as Reply.taken (receives jobs id h frame)) (done_as Reply.ignored h)) e

none_mapped : {A B : Type 0} (f : A → B) (o : Option A) → option_map f o ≡ None → o ≡ None
none_mapped f None e = refl
none_mapped f (Some x) e = absurd cc

module _ (s : Server) where
  -- a header
  header_act : (hd : Header) → is_taken s.jobs s.id s.holding.table (frames.Header hd) ≡ true → ChangesFence s (Act.deliver (frames.Header hd)) hd.name (changes.Told hd) Reply.taken s.holding.calls
  unfolding receives due_by due_by_frame marked_by_act
  header_act hd e = record {
    free = deliver_free s.jobs s.id s.holding (frames.Header hd);
    done =
        does_taken s.jobs s.id s.holding (frames.Header hd) e
        ∙ ap (λ t. done_as Reply.taken (with_table s.holding t)) (header_changed s.holding.table hd (header_young s.jobs s.id s.holding.table hd e));
    loud = refl;
    differs = change_differs s.jobs s.id s.holding hd.name (changes.Told hd);
    owes = λ left is. ap (λ t. flat_map (announcing s.jobs s.id) (news s.jobs s.id s.holding.table t hd.name)) is;
    asked = λ marks. refl;
  }

  -- a request for a header that is not there
  ask_act : (ask : FenceAsk) → is_taken s.jobs s.id s.holding.table (frames.FenceAsk ask) ≡ true → own_header_of s.jobs s.id s.holding ask.name ≡ None
      → ChangesFence s (Act.deliver (frames.FenceAsk ask)) ask.name changes.Learned Reply.taken s.holding.calls
  unfolding receives due_by due_by_frame marked_by_act
  ask_act ask e none = record {
    free = deliver_free s.jobs s.id s.holding (frames.FenceAsk ask);
    done =
        does_taken s.jobs s.id s.holding (frames.FenceAsk ask) e
        ∙ ap (λ t. done_as Reply.taken (with_table s.holding t)) (learned_changed s.holding.table ask.name (ask_young s.jobs s.id s.holding.table ask e));
    loud = refl;
    differs = change_differs s.jobs s.id s.holding ask.name changes.Learned;
    owes = λ left is.
        ap (λ o. telling_of s.jobs s.id ask.node ask.name o (flat_map (announcing s.jobs s.id) (news s.jobs s.id s.holding.table left.table ask.name))) none
        ∙ ap (λ t. flat_map (announcing s.jobs s.id) (news s.jobs s.id s.holding.table t ask.name)) is;
    asked = λ marks. refl;
  }

module _ (inside : Inside) (s : Server) (view : server_in inside ≡ s) (kept : IsInside inside)
    (name : FenceName) (ended : Calls) (table_then : Known) (marks_then : Levels) where
  abbrev ends : Server
  ends = server_with inside table_then ended marks_then

  pub header_steps : (hd copy : Header) → name ≡ hd.name → copy ≡ hd → is_taken s.jobs s.id s.holding.table (frames.Header hd) ≡ true
      → AreSettledIn name inside.table.jobs inside.id (placed_by inside.table.fences name (changes.Told copy)) inside.board.near inside.board.far inside.calls ended
      → table_then ≡ fence_after inside.table name (changes.Told copy) → marks_then ≡ (sends_in inside (fence_dues inside.table name (changes.Told copy))).marks
      → Steps s (Act.deliver (frames.Header hd)) Reply.taken table_then inside.id inside.held.anew ends (sends_in inside (fence_dues inside.table name (changes.Told copy))).frames
  header_steps hd copy named copied taken are table_is marks_are =
      fence_steps inside s view kept (Act.deliver (frames.Header hd)) hd.name (changes.Told hd) Reply.taken (λ m. m) (header_act s hd taken) name named (changes.Told copy)
      (ap (λ (x : Header). changes.Told x) copied) ended are table_then table_is marks_then marks_are

  pub ask_steps : (ask : FenceAsk) → name ≡ ask.name → is_taken s.jobs s.id s.holding.table (frames.FenceAsk ask) ≡ true
      → option_map (header inside.table.node name) (present inside.table.jobs inside.table.node inside.table.fences name) ≡ None
      → AreSettledIn name inside.table.jobs inside.id (placed_by inside.table.fences name changes.Learned) inside.board.near inside.board.far inside.calls ended
      → table_then ≡ fence_after inside.table name changes.Learned → marks_then ≡ (sends_in inside (fence_dues inside.table name changes.Learned)).marks
      → Steps s (Act.deliver (frames.FenceAsk ask)) Reply.taken table_then inside.id inside.held.anew ends (sends_in inside (fence_dues inside.table name changes.Learned)).frames
  ask_steps ask named taken none are table_is marks_are =
      let not_there =
      ap (λ (x : Server). present x.jobs x.id x.holding.table ask.name) (sym view)
      ∙ (λ i. present inside.table.jobs (sym kept.same i) inside.table.fences (sym named i))
      ∙ none_mapped (header inside.table.node name) (present inside.table.jobs inside.table.node inside.table.fences name) none in
      fence_steps inside s view kept (Act.deliver (frames.FenceAsk ask)) ask.name changes.Learned Reply.taken (λ m. m) (ask_act s ask taken not_there) name named changes.Learned
      refl ended are table_then table_is marks_then marks_are

-- ---- a request for a header that is there

some_mapped : {A B : Type 0} (f : A → B) (o : Option A) (y : B) → Some y ≡ option_map f o → (x : A) × (o ≡ Some x) × (y ≡ f x)
some_mapped f None y e = absurd cc
some_mapped f (Some x) y e = (x, refl, cc)

module _ (inside : Inside) (s : Server) (view : server_in inside ≡ s) (kept : IsInside inside)
    (ask : FenceAsk)
    (its : is_taken s.jobs s.id s.holding.table (frames.FenceAsk ask) ≡ true)
    (hd : Header)
    (there : Some hd ≡ option_map (header inside.table.node ask.name) (present inside.table.jobs inside.table.node inside.table.fences ask.name))
    (marks_then : Levels)
    (marks_are : marks_then ≡ (sends_in inside (telling_by hd ask.node)).marks) where
  abbrev was : Server
  was = server_in inside

  abbrev asks : Act
  asks = Act.deliver (frames.FenceAsk ask)

  its_header : (ls : List Local) × (present inside.table.jobs inside.id inside.table.fences ask.name ≡ Some ls) × (hd ≡ header inside.id ask.name ls)
  its_header = some_mapped (header inside.id ask.name) (present inside.table.jobs inside.id inside.table.fences ask.name) hd
      (there ∙ (λ i. option_map (header (kept.same i) ask.name) (present inside.table.jobs (kept.same i) inside.table.fences ask.name)))

  its_now : is_taken was.jobs was.id was.holding.table (frames.FenceAsk ask) ≡ true
  its_now = ap (λ (x : Server). is_taken x.jobs x.id x.holding.table (frames.FenceAsk ask)) view ∙ its

  known : learned inside.table.fences ask.name ≡ inside.table.fences
  known = learned_again inside.table.fences ask.name kept.node.server.holds.two (present_named inside.table.jobs inside.id inside.table.fences ask.name its_header.0 its_header.1)

  does_nothing : does was.jobs was.id was.holding asks ≡ done_as Reply.taken was.holding
  unfolding receives
  does_nothing =
      does_taken was.jobs was.id was.holding (frames.FenceAsk ask) its_now
      ∙ ap (λ t. done_as Reply.taken (with_table was.holding t)) known

  is_loud : is_quiet (does was.jobs was.id was.holding asks).reply ≡ false
  is_loud = ap (λ (d : Done). is_quiet d.reply) does_nothing

  stays : settled was.jobs was.id (does was.jobs was.id was.holding asks).left ≡ was.holding
  stays = ap (λ (d : Done). settled was.jobs was.id d.left) does_nothing ∙ settled_same was.jobs was.id was.holding kept.node.server.settled

  owes_it : due_by was.jobs was.id was.holding asks was.holding ≡ telling_by hd ask.node
  unfolding due_by due_by_frame
  owes_it =
      ap (λ o. telling_of inside.table.jobs inside.id ask.node ask.name o
      (flat_map (announcing inside.table.jobs inside.id) (news inside.table.jobs inside.id inside.table.fences inside.table.fences ask.name))) its_header.1
      ∙ sym (telling_alike inside.table.jobs inside.id (header inside.id ask.name its_header.0) ask.node
      (present_lists inside.table.jobs inside.id inside.table.fences ask.name its_header.0 its_header.1))
      ∙ ap (λ (h : Header). telling_by h ask.node) (sym its_header.2)

  free_ask : first_of (cause was.jobs was.id was.holding asks) (tt {0}) ≡ Ok tt
  free_ask = deliver_free was.jobs was.id was.holding (frames.FenceAsk ask)

  told_done : server_with inside inside.table inside.calls marks_then ≡ after was asks
  unfolding marked_by_act
  told_done =
      (λ i. server_with inside inside.table inside.calls (marks_are i))
      ∙ sym (accepted_after was asks free_ask is_loud was.holding stays (telling_by hd ask.node) owes_it)

  told_sent : (sends_in inside (telling_by hd ask.node)).frames ≡ sent_by was asks
  unfolding marked_by_act
  told_sent = sym (accepted_sent was asks free_ask is_loud was.holding stays (telling_by hd ask.node) owes_it)

  pub told_steps : Steps s asks Reply.taken inside.table inside.id inside.held.anew (server_with inside inside.table inside.calls marks_then) (sends_in inside (telling_by hd ask.node)).frames
  told_steps = subst
      (λ (x : Server). Steps x asks Reply.taken inside.table inside.id inside.held.anew (server_with inside inside.table inside.calls marks_then) (sends_in inside (telling_by hd ask.node)).frames)
      view (record {
        replied = accepted_reply was asks free_ask is_loud was.holding stays (telling_by hd ask.node) owes_it ∙ ap (λ (d : Done). d.reply) does_nothing;
        done = told_done;
        sent = told_sent;
        kept = record { same = kept.same; told = kept.told; node = subst IsNode (sym told_done) (node_stays was asks kept.node); replies = kept.replies };
      })

-- A process set is defined.
use Rattle.std.proofs.Common.{◌≡◌, ℕ, zero, suc, Bool, true, false, ◌||◌, ◌==◌, not, cond, nat_lt, List, [], ◌∷◌, length, Option, Some, None, is_some, Result, Ok, Err, inl, inr, refl, sym, ap, subst, ◌∙◌, arith}
use Rattle.std.specs.FinMap as finite
use Rattle.std.specs.FinSet as set
use Rattle.std.specs.List.{list_any}
use Rattle.std.specs.Option.{IfSome, unwrap_or}
use Rattle.std.proofs.lemmas.Bool.{false≢true, lt-ltb}
use Rattle.std.proofs.lemmas.Bool.Decides.{nat_tests}
use Rattle.pmg_value.specs.Answers.{Fails}
use Rattle.pmg_value.specs.CheckOrder.{first_of}
use Rattle.pmg_value.specs.InOrder.{in_order}
use Rattle.pmg_value.specs.Names.{is_reserved}
use Rattle.pmg_value.specs.Process.{proc_cmp, is_client}
use Rattle.pmg_value.specs.declared.process.Proc.{Proc}
use Rattle.pmg_value.specs.declared.refusal.Refusal.{Refusal}
use Rattle.pmg_value.specs.declared.refusal.Refusal.TheVariants as refusals
use Rattle.pmg_value.proofs.ListLemmas.{list_any_in, not_in_list_any}
use Rattle.pmg_value.proofs.ProcessOrder.{procs_total, exact_procs}
use Rattle.pmg_value.proofs.SetOrder.{from_list-in_order}
use Rattle.pmg_commit.specs.Sealed.{Sealed}
use Rattle.pmg_jobinfo.specs.Expansion.{is_all, expansion}
use Rattle.pmg_jobinfo.specs.Jobs.{Jobs, IsSpace, AreJobs, is_registered, is_member, home_of}
use Rattle.pmg_jobinfo.specs.Refusing.{is_bad, expand_cause}
use Rattle.pmg_jobinfo.proofs.ListedLemmas.{own_are_listed, listed_is_client, all_pass}
use Rattle.pmg_jobinfo.proofs.RuleLemmas.{is_same, same_itself, each_is_meant, each_is_member}
use Rattle.pmg_pset.specs.Members.{each_once, proc_bytes}
use Rattle.pmg_pset.specs.Refusing.{are_too_many, is_too_much, are_unfit, define_cause, room_cause}
use Rattle.pmg_pset.specs.Sets.{host, is_live, set_changed}
use Rattle.pmg_pset.proofs.SetLemmas.{refused_alike, made_alike}
use Rattle.pmg_node_model.specs.Acts.{Act, Request, Reply, Done, members_of, no_cause, cause, request_cause, does, serves}
use Rattle.pmg_node_model.specs.Choosing.{due_by, due_by_request, marked_by_act}
use Rattle.pmg_node_model.specs.Holdings.{NodeState, sealer_in}
use Rattle.pmg_node_parts.specs.Owns.{LocalCommits, with_sets}
use Rattle.pmg_node.specs.Servers.{Server, IsNode, IsAccepted, reply_to}
use Rattle.pmg_node_parts.specs.Telling.{spread_by}
use Rattle.pmg_node_model.proofs.CauseFacts.{neither}
use Rattle.pmg_node.proofs.EntryLemmas.{any_or, alone_once}
use Rattle.pmg_node_model.proofs.KeptBasics.{act_free}
use Rattle.pmg_node.proofs.SealedActs.{Seals}

-- ---- the members

module _ (jobs : Jobs) (list items : List Proc) (are : set.from_list {R = proc_cmp} items ≡ expansion jobs list) where
  pub members_are : each_once items ≡ members_of jobs list
  unfolding each_once
  members_are = ap (λ (s : set.FinSet proc_cmp). in_order s) are

  there_is : (q : Proc) → list_any (is_same q) items ≡ set.contains (expansion jobs list) q
  there_is q = sym (set.contains-from_list procs_total items q) ∙ ap (λ (s : set.FinSet proc_cmp). set.contains s q) are

members_once : (jobs : Jobs) (list : List Proc) → each_once (members_of jobs list) ≡ members_of jobs list
members_once jobs list = members_are jobs list (members_of jobs list) (from_list-in_order procs_total exact_procs (expansion jobs list))

-- ---- how a definition is judged

-- the name is one of the standard's, the list is empty, or one in it is none that a list may name
abbrev pub is_bad_by : Jobs → List ℕ → List Proc → Bool
is_bad_by jobs name list = is_reserved name || ((length list == 0) || list_any (λ q. is_reserved q.nspace || is_bad jobs q) list)

-- or the namespace of one of them is not registered
abbrev pub is_unknown_by : Jobs → List Proc → Bool
is_unknown_by jobs list = list_any (λ q. not (is_registered jobs q.nspace)) list

-- the first of the refusals whose cause holds; then it is judged whether there is room
abbrev pub define_chain : Bool → Bool → Bool → Result (Unit {0}) Refusal → Result (Unit {0}) Refusal
define_chain bad unknown foreign room = cond bad (Err refusals.BadParam) (cond unknown (Err refusals.UnknownNamespace) (cond foreign (Err refusals.NotMine) room))

abbrev room_chain : Bool → Bool → Result (Unit {0}) Refusal
room_chain live full = cond live (Err refusals.Exists) (cond full (Err refusals.TooMany) (Ok tt))

turned : (m r l : Bool) → (m || (r || l)) ≡ (r || (l || m))
turned true true l = refl
turned true false true = refl
turned true false false = refl
turned false true l = refl
turned false false true = refl
turned false false false = refl

module _ (jobs : Jobs) (id : ℕ) (h : NodeState) (name : List ℕ) (list : List Proc) where
  abbrev pub defines : Act
  defines = Act.request (Request.define name list)

  bad_is : ((list_any (λ q. is_reserved q.nspace) list || list_any (is_bad jobs) list) || (is_reserved name || (length list == 0))) ≡ is_bad_by jobs name list
  bad_is =
      turned (list_any (λ q. is_reserved q.nspace) list || list_any (is_bad jobs) list) (is_reserved name) (length list == 0)
      ∙ ap (λ b. is_reserved name || ((length list == 0) || b)) (any_or (λ q. is_reserved q.nspace) (is_bad jobs) list)

  abbrev is_full : List Proc → Bool
  is_full procs = are_too_many procs || is_too_much h.sets name (proc_bytes procs)

  define_first : first_of (cause jobs id h defines) (tt {0})
      ≡ define_chain (is_bad_by jobs name list) (is_unknown_by jobs list) (not (id == 0)) (first_of (room_cause h.sets name (members_of jobs list)) tt)
  unfolding cause request_cause
  define_first = λ i. define_chain (bad_is i) (alone_once (is_unknown_by jobs list) i) (alone_once (not (id == 0)) i) (room_chain (is_live h.sets name) (is_full (members_once jobs list i)))

  pub define_judged : (bad unknown foreign : Bool) (room : Result (Unit {0}) Refusal) → is_bad_by jobs name list ≡ bad → is_unknown_by jobs list ≡ unknown → not (id == 0) ≡ foreign
      → first_of (room_cause h.sets name (members_of jobs list)) tt ≡ room → first_of (cause jobs id h defines) (tt {0}) ≡ define_chain bad unknown foreign room
  define_judged bad unknown foreign room is_bad is_unknown is_foreign is_room = define_first ∙ (λ i. define_chain (is_bad i) (is_unknown i) (is_foreign i) (is_room i))

-- the same, as a node's parts tell
pub define_now : (s : Server) (jobs : Jobs) (id : ℕ) (sets : Sealed) (name : List ℕ) (list : List Proc) → jobs ≡ s.jobs → id ≡ s.id → sets ≡ s.holding.sets
    → (bad unknown foreign : Bool) (room : Result (Unit {0}) Refusal) → is_bad_by jobs name list ≡ bad → is_unknown_by jobs list ≡ unknown → not (id == 0) ≡ foreign
    → first_of (room_cause sets name (members_of jobs list)) tt ≡ room → first_of (cause s.jobs s.id s.holding (Act.request (Request.define name list))) (tt {0}) ≡ define_chain bad unknown foreign room
define_now s jobs id sets name list same_jobs same_id same_sets bad unknown foreign room is_bad is_unknown is_foreign is_room =
    define_judged s.jobs s.id s.holding name list bad unknown foreign room (ap (λ j. is_bad_by j name list) (sym same_jobs) ∙ is_bad) (ap (λ j. is_unknown_by j list) (sym same_jobs) ∙ is_unknown)
    (ap (λ (n : ℕ). not (n == 0)) (sym same_id) ∙ is_foreign) ((λ i. first_of (room_cause (sym same_sets i) name (members_of (sym same_jobs i) list)) tt) ∙ is_room)

-- another node than 0
pub is_foreign : (n : ℕ) → (n ≡ 0 → ⊥) → not (n == 0) ≡ true
is_foreign zero other = absurd (other refl)
is_foreign (suc n) other = grind (arith, nat_tests)

-- ---- a definition that is not refused

-- what is not amiss with it
record IsFit (jobs : Jobs) (h : NodeState) (name : List ℕ) (list : List Proc) : Type 0 where
  named : is_reserved name ≡ false
  some : (length list == 0) ≡ false
  good : list_any (λ q. is_reserved q.nspace || is_bad jobs q) list ≡ false
  known : is_unknown_by jobs list ≡ false
  new : is_live h.sets name ≡ false
  room : is_full jobs 0 h name list (members_of jobs list) ≡ false

room_free : (live full : Bool) → room_chain live full ≡ Ok tt → (live ≡ false) × (full ≡ false)
room_free true full is = absurd cc
room_free false true is = absurd cc
room_free false false is = (refl, refl)

chain_free : (bad unknown foreign : Bool) (room : Result (Unit {0}) Refusal) → define_chain bad unknown foreign room ≡ Ok tt → (bad ≡ false) × (unknown ≡ false) × (room ≡ Ok tt)
chain_free true unknown foreign room is = absurd cc
chain_free false true foreign room is = absurd cc
chain_free false false true room is = absurd cc
chain_free false false false room is = (refl, refl, is)

fit_is : (jobs : Jobs) (id : ℕ) (h : NodeState) (name : List ℕ) (list : List Proc) → first_of (cause jobs id h (Act.request (Request.define name list))) (tt {0}) ≡ Ok tt → IsFit jobs h name list
fit_is jobs id h name list free =
    let parts = chain_free (is_bad_by jobs name list) (is_unknown_by jobs list) (not (id == 0)) (first_of (room_cause h.sets name (members_of jobs list)) tt)
    (sym (define_first jobs id h name list) ∙ free) in
    let names = neither (is_reserved name) _ parts.0 in
    let lists = neither (length list == 0) _ names.1 in
    let rooms = room_free (is_live h.sets name) (is_full jobs id h name list (members_of jobs list)) parts.2 in
    record { named = names.0; some = lists.0; good = lists.1; known = parts.1; new = rooms.0; room = rooms.1 }

-- ---- each member is one that a group may register, and there is one

member_is_client : (jobs : Jobs) → AreJobs jobs → (q : Proc) → is_member jobs q ≡ true → is_client q ≡ true
member_is_client jobs are q member = listed_is_client jobs (home_of jobs q) q are (own_are_listed jobs (home_of jobs q) q member refl)

has_ranks : (nodes : ℕ) (name : List ℕ) (o : Option (List ℕ)) → IfSome o (IsSpace nodes name) → not (is_some o) ≡ false → nat_lt 0 (length (unwrap_or o [])) ≡ true
has_ranks nodes name None space there = absurd cc
has_ranks nodes name (Some homes) space there = lt-ltb 0 (length homes) space.some

none_bad : (jobs : Jobs) (list : List Proc) → list_any (λ q. is_reserved q.nspace || is_bad jobs q) list ≡ false → list_any (is_bad jobs) list ≡ false
none_bad jobs list good = (neither (list_any (λ q. is_reserved q.nspace) list) _ (any_or (λ q. is_reserved q.nspace) (is_bad jobs) list ∙ good)).1

no_cause_of : (jobs : Jobs) (list : List Proc) → list_any (is_bad jobs) list ≡ false → is_unknown_by jobs list ≡ false → (e : Refusal) → expand_cause jobs list e ≡ false
no_cause_of jobs list bad unknown refusals.BadParam = bad
no_cause_of jobs list bad unknown refusals.UnknownNamespace = unknown
no_cause_of jobs list bad unknown _ = refl

some_there : (n : ℕ) → (suc n == 0) ≡ false
some_there n = grind (arith, nat_tests)

module _ (jobs : Jobs) (are_jobs : AreJobs jobs) where
  -- one for whom the list stands
  someone : (q : Proc) (qs : List Proc) → is_unknown_by jobs (q ∷ qs) ≡ false → (b : Bool) → is_all q ≡ b → (p : Proc) × (set.contains (expansion jobs (q ∷ qs)) p ≡ true)
  someone q qs known true all =
      let registered = not_in_list_any (λ (p : Proc). not (is_registered jobs p.nspace)) (q ∷ qs) known q (inl refl) in
      let first : Proc = record { nspace = q.nspace; rank = 0 } in
      (first, (each_is_meant jobs (q ∷ qs) first).1 (q, inl refl, inl (all, refl, has_ranks (length jobs.nodes) q.nspace (finite.get jobs.spaces q.nspace) (are_jobs.spaces q.nspace) registered)))
  someone q qs known false one = (q, (each_is_meant jobs (q ∷ qs) q).1 (q, inl refl, inr (one, refl)))

  no_list : (n : ℕ) → (n == 0) ≡ false → n ≡ 0 → ⊥
  no_list n some none = grind (arith, nat_tests)

  means_someone : (list : List Proc) → (length list == 0) ≡ false → is_unknown_by jobs list ≡ false → (p : Proc) × (set.contains (expansion jobs list) p ≡ true)
  means_someone [] some known = absurd (no_list 0 some refl)
  means_someone (q ∷ qs) some known = someone q qs known (is_all q) refl

  not_empty : (items : List Proc) (p : Proc) → list_any (is_same p) items ≡ true → (length items == 0) ≡ false
  not_empty [] p there = absurd (false≢true there)
  not_empty (x ∷ xs) p there = some_there (length xs)

  module _ (list items : List Proc) (are : set.from_list {R = proc_cmp} items ≡ expansion jobs list) where
    members_fit : (length list == 0) ≡ false → list_any (λ q. is_reserved q.nspace || is_bad jobs q) list ≡ false → is_unknown_by jobs list ≡ false → are_unfit items ≡ false
    members_fit some good known =
        let one = means_someone list some known in
        let clients = all_pass is_client items (λ q i. member_is_client jobs are_jobs q
        (each_is_member jobs list (no_cause_of jobs list (none_bad jobs list good) known) q (sym (there_is jobs list items are q) ∙ list_any_in (is_same q) items q i (same_itself q)))) in
        λ i. not_empty items one.0 (there_is jobs list items are one.0 ∙ one.1) i || not (clients i)

    pub define_fits : (id : ℕ) (h : NodeState) (name : List ℕ) → first_of (cause jobs id h (Act.request (Request.define name list))) (tt {0}) ≡ Ok tt
        → first_of (define_cause h.sets name items) h.sets ≡ Ok h.sets
    define_fits id h name free =
        let fit = fit_is jobs id h name list free in
        let unfit = members_fit fit.some fit.good fit.known in
        let full = ap (is_full jobs id h name list) (members_are jobs list items are) ∙ fit.room in
        λ i. cond (fit.named i || unfit i) (Err refusals.BadParam) (cond (fit.new i) (Err refusals.Exists) (cond (full i) (Err refusals.TooMany) (Ok h.sets)))

-- what is told of a definition that was judged can be but that an allocation failed
pub define_over : (jobs : Jobs) (id : ℕ) (h : NodeState) (name : List ℕ) (list items : List Proc) (e : Refusal) → first_of (cause jobs id h (Act.request (Request.define name list))) (tt {0}) ≡ Ok tt
    → first_of (define_cause h.sets name items) h.sets ≡ Ok h.sets → Fails e (first_of (define_cause h.sets name items) h.sets)
    → Fails e (first_of (cause jobs id h (Act.request (Request.define name list))) (tt {0}))
define_over jobs id h name list items e free fits fails =
    subst (λ (r : Result (Unit {0}) Refusal). Fails e r) (sym free) (refused_alike no_cause h.sets (tt {0}) e (subst (λ (r : Result Sealed Refusal). Fails e r) fits fails))

pub define_accepted : (s : Server) (name : List ℕ) (list : List Proc) → first_of (cause s.jobs s.id s.holding (Act.request (Request.define name list))) (tt {0}) ≡ Ok tt
    → IsAccepted (reply_to s (Act.request (Request.define name list)))
unfolding does serves
define_accepted s name list free = subst IsAccepted (sym (ap (λ (d : Done). d.reply) (act_free s.jobs s.id s.holding (Act.request (Request.define name list)) free))) tt

-- what a definition seals
abbrev pub defined_in : Server → List ℕ → List Proc → Sealed
defined_in s name list = set_changed s.holding.sets name (proc_bytes (each_once (members_of s.jobs list)))

pub define_seals : (s : Server) (name : List ℕ) (list : List Proc) → IsNode s → first_of (cause s.jobs s.id s.holding (Act.request (Request.define name list))) (tt {0}) ≡ Ok tt
    → Seals s (Act.request (Request.define name list)) host (defined_in s name list) (Reply.defined (defined_in s name list).level) (λ sealer. spread_by s.jobs s.id sealer host)
unfolding does serves due_by due_by_request marked_by_act sealer_in
define_seals s name list node free = record {
  node = node;
  free = free;
  does = refl;
  loud = refl;
  proc = node.server.holds.sealers host;
  owes = λ new. refl;
  unasked = refl;
}

-- ---- a definition that was judged, whose members are known

-- It is not refused; the sets are not either; and those whom they put are its members.
pub record IsReady (s : Server) (name : List ℕ) (list items : List Proc) : Type 0 where
  pub free : first_of (cause s.jobs s.id s.holding (Act.request (Request.define name list))) (tt {0}) ≡ Ok tt
  pub fits : first_of (define_cause s.holding.sets name items) s.holding.sets ≡ Ok s.holding.sets
  pub put : each_once items ≡ each_once (members_of s.jobs list)

pub define_ready : (s now : Server) (name : List ℕ) (list items : List Proc) (jobs : Jobs) → s ≡ now → IsNode s → jobs ≡ s.jobs → Ok tt ≡ first_of (cause now.jobs now.id now.holding (Act.request (Request.define name list))) (tt {0})
    → set.from_list {R = proc_cmp} items ≡ expansion jobs list → IsReady s name list items
define_ready s now name list items jobs view node same judged listed =
    let free = ap (λ (x : Server). first_of (cause x.jobs x.id x.holding (Act.request (Request.define name list))) (tt {0})) view ∙ sym judged in
    let are = listed ∙ ap (λ j. expansion j list) same in
    record {
      free = free;
      fits = define_fits s.jobs node.jobs list items are s.id s.holding name free;
      put = members_are s.jobs list items are ∙ sym (members_once s.jobs list);
    }

-- a change of the sets that is taken back leaves what own processes sealed as it was
pub own_back : (own changes back : LocalCommits) (cause : Refusal → Bool) (z w : Sealed) → changes ≡ with_sets own z → back ≡ with_sets changes w → first_of cause own.sets ≡ Ok w → back ≡ own
own_back own changes back cause z w made undone was =
    undone ∙ (λ i. record { sealers = (made i).sealers; sets = sym (made_alike cause own.sets w (tt {0}) was).0 i })

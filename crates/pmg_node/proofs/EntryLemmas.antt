-- How a node judges who enters a fence, and what comes of an entry.
use Rattle.std.proofs.Common.{◌≡◌, ◌≤◌, ℕ, suc, min, Bool, true, false, ◌||◌, ◌&&◌, ◌==◌, not, cond, nat_lt, nat_le, List, [], ◌∷◌, length, Option, Some, None, is_some, Result, Ok, Err, inl, inr, refl, sym, ap, subst, ◌∙◌, arith}
use Rattle.std.specs.FinMap as finite
use Rattle.std.specs.FinSet as set
use Rattle.std.specs.List.{flat_map, list_all, list_any}
use Rattle.std.specs.Option.{option_map, unwrap_or}
use Rattle.std.specs.Prelude.{IfSome}
use Rattle.std.proofs.lemmas.Bool.{false≢true, ltb-false, leb-true, le-ltb}
use Rattle.std.proofs.lemmas.Bool.Decides.{nat_tests}
use Rattle.std.proofs.lemmas.List.FromFn.{length-range_with_len}
use Rattle.std.proofs.lemmas.List.Sums.{count_by-le-length}
use Rattle.pmg_value.specs.CheckOrder.{first_of}
use Rattle.pmg_value.specs.Names.{is_reserved}
use Rattle.pmg_value.specs.Signatures.{Signature, FenceName}
use Rattle.pmg_value.specs.declared.process.Proc.{Proc}
use Rattle.pmg_value.specs.declared.refusal.Refusal.{Refusal}
use Rattle.pmg_value.specs.declared.refusal.Refusal.TheVariants as refusals
use Rattle.pmg_value.specs.Process.{is_client}
use Rattle.pmg_frame.specs.Fences.{signature, asked_signature}
use Rattle.pmg_jobinfo.specs.Expansion.{ranks, expansion}
use Rattle.pmg_jobinfo.specs.Jobs.{Jobs, AreJobs, IsSpace, is_registered, is_member, home_of, size_of}
use Rattle.pmg_jobinfo.specs.Refusing.{is_bad}
use Rattle.pmg_jobinfo.proofs.MeantLemmas.{all_counted, more_counted, none_counted}
use Rattle.pmg_jobinfo.proofs.RuleLemmas.{each_is_meant}
use Rattle.pmg_dmodex.specs.Levels.{Levels}
use Rattle.pmg_dmodex.specs.Requests.{Requests}
use Rattle.pmg_fence.specs.Changes.{next_name, news}
use Rattle.pmg_fence.specs.Codes.{Known}
use Rattle.pmg_fence.specs.Kept.{placed_by}
use Rattle.pmg_fence.specs.Tables.{count_of}
use Rattle.pmg_fence.specs.declared.change.Change.TheVariants as changes
use Rattle.pmg_store.specs.declared.board.Board.{Board}
use Rattle.pmg_node_model.specs.Acts.{Act, Request, Reply, Done, also, free_cause, list_cause, is_misnamed, list_of, signature_of, signature_cause, cause, request_cause, serves, does}
use Rattle.pmg_node_model.specs.Choosing.{announcing, due_by, due_by_request, marked_by_act}
use Rattle.pmg_node_parts.specs.Codes.{Calls}
use Rattle.pmg_node.specs.Content.{server_of}
use Rattle.pmg_node.specs.declared.server.Server.TheInside.{Inside}
use Rattle.pmg_node.specs.Entries.{part_cause, entry_cause, entered_name}
use Rattle.pmg_node.specs.Fencing.{fence_after, fence_dues, AreSettledIn}
use Rattle.pmg_node_model.specs.Holdings.{CallState, NodeState, sealer_of, call_of}
use Rattle.pmg_node_parts.specs.Owns.{LocalCommits, sealed_of}
use Rattle.pmg_node.specs.Servers.{Server, reply_to, IsAccepted, RefusesAct}
use Rattle.pmg_node.proofs.ActLemmas.{refused_reply}
use Rattle.pmg_node_model.proofs.CauseFacts.{by_causes, neither_cause, free_is}
use Rattle.pmg_node.proofs.FenceLemmas.{ChangesFence, Steps, fence_steps}
use Rattle.pmg_node_model.proofs.KeptAgain.{enter_differs}
use Rattle.pmg_node.proofs.NodeInside.{server_in, server_with, IsInside, sends_in}
use Rattle.pmg_node.proofs.ReplyLemmas.{never_short, refuses_due, refused_apart}
use Rattle.pmg_node.proofs.SilentLemmas.{act_free}

-- ---- the signature that is asked for

is_beyond : (n : ℕ) → nat_lt 4096 n ≡ not (nat_le n 4096)
is_beyond n = grind (arith, nat_tests)

module _ (x : Signature) (n : ℕ) where
  found_by : (a b c : Bool) (g : Signature) → cond a (Err refusals.BadParam) (cond b (Err refusals.BadParam) (cond c (Ok x) (Err refusals.TooMany))) ≡ Ok g → Some g ≡ cond (not c) None (Some x)
  found_by true b c g e = absurd cc
  found_by false true c g e = absurd cc
  found_by false false true g e = let same : x ≡ g = cc in ap Some (sym same)
  found_by false false false g e = absurd cc

  too_many_by : (a b c : Bool) → cond a (Err refusals.BadParam) (cond b (Err refusals.BadParam) (cond c (Ok x) (Err refusals.TooMany))) ≡ Err refusals.TooMany → None ≡ cond (not c) None (Some x)
  too_many_by true b c e = absurd cc
  too_many_by false true c e = absurd cc
  too_many_by false false true e = absurd cc
  too_many_by false false false e = refl

pub asked_within : (ps : List Proc) (collect : Bool) (g : Signature) → asked_signature ps collect ≡ Ok g
    → Some g ≡ cond (nat_lt 4096 (set.len (signature ps collect).participants)) None (Some (signature ps collect))
unfolding asked_signature
asked_within ps collect g e =
    let n = set.len (signature ps collect).participants in
    found_by (signature ps collect) n (length ps == 0) (not (list_all is_client ps)) (nat_le n 4096) g e ∙ ap (λ b. cond b None (Some (signature ps collect))) (sym (is_beyond n))

pub asked_beyond : (ps : List Proc) (collect : Bool) (e : Refusal) → asked_signature ps collect ≡ Err e → e ≡ refusals.TooMany
    → None ≡ cond (nat_lt 4096 (set.len (signature ps collect).participants)) None (Some (signature ps collect))
unfolding asked_signature
asked_beyond ps collect e is many =
    let n = set.len (signature ps collect).participants in
    too_many_by (signature ps collect) n (length ps == 0) (not (list_all is_client ps)) (nat_le n 4096) (is ∙ ap (λ (r : Refusal). Err r) many) ∙ ap (λ b. cond b None (Some (signature ps collect))) (sym (is_beyond n))

-- ---- how many participants it has

abbrev process_all : List ℕ → Proc
process_all name = record { nspace = name; rank = 4294967294 }

size_by : (jobs : Jobs) (name : List ℕ) (o : Option (List ℕ)) → IfSome o (IsSpace (length jobs.nodes) name) → length (unwrap_or o []) ≤ 4096
size_by jobs name None space = omega arith
size_by jobs name (Some homes) space = space.few

-- a namespace has no more than a fence may have
whole_few : (jobs : Jobs) → AreJobs jobs → (name : List ℕ) → nat_lt 4096 (set.len (expansion jobs (process_all name ∷ []))) ≡ false
whole_few jobs are name =
    let size : size_of jobs name ≤ 4096 = size_by jobs name (finite.get jobs.spaces name) (are.spaces name) in
    let test = λ (rank : ℕ). not (set.contains (expansion jobs []) (record { nspace = name; rank = rank })) in
    let all = all_counted jobs (process_all name) [] refl in
    let most = count_by-le-length test (ranks (size_of jobs name)) in
    le-ltb 4096 (set.len (expansion jobs (process_all name ∷ []))) (omega (arith, size, all, most, length-range_with_len 0 (size_of jobs name), more_counted jobs (process_all name) [], none_counted jobs))

pub empty_few : (jobs : Jobs) → AreJobs jobs → (p : Proc) (list : List Proc) → (length list == 0) ≡ true → false ≡ nat_lt 4096 (set.len (expansion jobs (list_of p list)))
empty_few jobs are p [] none = sym (whole_few jobs are p.nspace)
empty_few jobs are p (q ∷ qs) none = absurd (grind (arith, nat_tests, none))

counted_alike : (n count : ℕ) → count ≡ min 4097 n → nat_lt 4096 count ≡ nat_lt 4096 n
counted_alike n count is = grind (arith, nat_tests, is)

pub listed_counted : (jobs : Jobs) (p : Proc) (list : List Proc) (count : ℕ) → (length list == 0) ≡ false → count ≡ min 4097 (set.len (expansion jobs list))
    → nat_lt 4096 count ≡ nat_lt 4096 (set.len (expansion jobs (list_of p list)))
listed_counted jobs p [] count some is = absurd (false≢true (sym some))
listed_counted jobs p (q ∷ qs) count some is = counted_alike (set.len (expansion jobs (q ∷ qs))) count is

-- ---- what is amiss

pub any_or : (f g : Proc → Bool) (xs : List Proc) → (list_any f xs || list_any g xs) ≡ list_any (λ x. f x || g x) xs
any_or f g [] = refl
any_or f g (x ∷ xs) = both (f x) (list_any f xs) (g x) (list_any g xs) ∙ ap (λ b. (f x || g x) || b) (any_or f g xs)
  where
    both : (a b c d : Bool) → ((a || b) || (c || d)) ≡ ((a || c) || (b || d))
    both true b c d = refl
    both false true true d = refl
    both false true false d = refl
    both false false c d = refl

bad_whole : (r m reg : Bool) → (((r || m) || false) || (((r || false) || ((reg && false) || false)) || false)) ≡ (r || (m || false))
bad_whole true m reg = refl
bad_whole false true reg = refl
bad_whole false false true = refl
bad_whole false false false = refl

bad_given : (r m a : Bool) → (((r || m) || false) || (a || false)) ≡ (r || (m || a))
bad_given true m a = refl
bad_given false true a = refl
bad_given false false true = refl
bad_given false false false = refl

unknown_whole : (u : Bool) → ((u || false) || ((u || false) || false)) ≡ (u || false)
unknown_whole true = refl
unknown_whole false = refl

unknown_given : (u a : Bool) → ((u || false) || (a || false)) ≡ (u || a)
unknown_given true a = refl
unknown_given false true = refl
unknown_given false false = refl

alone : (x : Bool) → ((x || false) || false) ≡ x
alone true = refl
alone false = refl

pub alone_once : (x : Bool) → (x || false) ≡ x
alone_once true = refl
alone_once false = refl

-- it is one of its namespace of whom nothing else is amiss
member_is : (r reg member a u : Bool) → (r || ((reg && not member) || a)) ≡ false → (not reg || u) ≡ false → member ≡ true
member_is true reg member a u bad unknown = absurd cc
member_is false false member a u bad unknown = absurd cc
member_is false true true a u bad unknown = refl
member_is false true false a u bad unknown = absurd cc

-- who enters, or one in the list, is none that a list may name
abbrev pub is_bad_by : Jobs → Proc → List Proc → Bool
is_bad_by jobs p list = is_reserved p.nspace || (is_misnamed jobs p || list_any (λ q. is_reserved q.nspace || is_bad jobs q) list)

-- or the namespace of one of them is not registered
abbrev pub is_unknown_by : Jobs → Proc → List Proc → Bool
is_unknown_by jobs p list = not (is_registered jobs p.nspace) || list_any (λ q. not (is_registered jobs q.nspace)) list

-- or a list that is not empty does not mean who enters
abbrev pub is_outside_by : Jobs → Proc → List Proc → Bool
is_outside_by jobs p list = not (length list == 0) && not (set.contains (expansion jobs list) p)

-- the first of the refusals whose cause holds
abbrev pub entry_chain : Bool → Bool → Bool → Bool → Bool → Bool → Result (Unit {0}) Refusal
entry_chain a b c d e f =
    cond a (Err refusals.BadParam)
    (cond b (Err refusals.UnknownNamespace) (cond c (Err refusals.NotMine) (cond d (Err refusals.Terminated) (cond e (Err refusals.Busy) (cond f (Err refusals.NotAParticipant) (Ok tt))))))

module _ (jobs : Jobs) (id : ℕ) (h : NodeState) (p : Proc) where
  bad_is : (list : List Proc) → entry_cause jobs id h p list refusals.BadParam ≡ is_bad_by jobs p list
  bad_is [] = bad_whole (is_reserved p.nspace) (is_misnamed jobs p) (is_registered jobs p.nspace)
  bad_is (q ∷ qs) =
      bad_given (is_reserved p.nspace) (is_misnamed jobs p) (list_any (λ q. is_reserved q.nspace) (q ∷ qs) || list_any (is_bad jobs) (q ∷ qs))
      ∙ ap (λ b. is_reserved p.nspace || (is_misnamed jobs p || b)) (any_or (λ q. is_reserved q.nspace) (is_bad jobs) (q ∷ qs))

  unknown_is : (list : List Proc) → entry_cause jobs id h p list refusals.UnknownNamespace ≡ is_unknown_by jobs p list
  unknown_is [] = unknown_whole (not (is_registered jobs p.nspace))
  unknown_is (q ∷ qs) = unknown_given (not (is_registered jobs p.nspace)) (list_any (λ q. not (is_registered jobs q.nspace)) (q ∷ qs))

  some_listed : (n : ℕ) → (suc n == 0) ≡ false
  some_listed n = grind (arith, nat_tests)

  outside_is : (list : List Proc) → is_bad_by jobs p list ≡ false → is_unknown_by jobs p list ≡ false → entry_cause jobs id h p list refusals.NotAParticipant ≡ is_outside_by jobs p list
  outside_is [] bad unknown =
      let member = member_is (is_reserved p.nspace) (is_registered jobs p.nspace) (is_member jobs p) false false bad unknown in
      ap not ((each_is_meant jobs (list_of p []) p).1 (record { nspace = p.nspace; rank = 4294967294 }, inl refl, inl (refl, refl, member)))
  outside_is (q ∷ qs) bad unknown = ap (λ b. not b && not (set.contains (expansion jobs (q ∷ qs)) p)) (sym (some_listed (length qs)))

  -- who enters is judged in this order
  pub judged : (list : List Proc) (a b c d e f : Bool) → is_bad_by jobs p list ≡ a → is_unknown_by jobs p list ≡ b → (home_of jobs p == id) ≡ c → (sealer_of h p).ended ≡ d
      → is_some (call_of h p) ≡ e → entry_cause jobs id h p list refusals.NotAParticipant ≡ f → first_of (entry_cause jobs id h p list) (tt {0}) ≡ entry_chain a b (not c) d e f
  judged list a b c d e f bad unknown home ended busy outside =
      λ i. entry_chain ((bad_is list ∙ bad) i) ((unknown_is list ∙ unknown) i) ((alone (not (home_of jobs p == id)) ∙ ap not home) i) ((alone (sealer_of h p).ended ∙ ended) i)
      ((alone_once (is_some (call_of h p)) ∙ busy) i) (outside i)

  -- and last, whether the list means it
  pub judged_all : (list : List Proc) (f : Bool) → is_bad_by jobs p list ≡ false → is_unknown_by jobs p list ≡ false → (home_of jobs p == id) ≡ true → (sealer_of h p).ended ≡ false
      → is_some (call_of h p) ≡ false → is_outside_by jobs p list ≡ f → first_of (entry_cause jobs id h p list) (tt {0}) ≡ cond f (Err refusals.NotAParticipant) (Ok tt)
  judged_all list f bad unknown home ended busy outside = judged list false false true false false f bad unknown home ended busy (outside_is list bad unknown ∙ outside)

  -- one that is judged so is in no call
  pub entry_idle : (list : List Proc) → first_of (entry_cause jobs id h p list) (tt {0}) ≡ Ok tt → call_of h p ≡ None
  entry_idle list is = elim (by_causes (entry_cause jobs id h p list) (tt {0})) [
    | inl found ↦ absurd (not_both (sym is ∙ found.2))
    | inr none ↦ (free_is jobs id h p (neither_cause (free_cause jobs id h p) (also (list_cause jobs (list_of p list)) (part_cause jobs p list)) none.1).0).1
  ]
    where
      not_both : {e : Refusal} → Ok (tt {0}) ≡ Err e → ⊥
      not_both is = cc

  -- ---- and the limits

  abbrev pub then_limits : Result (Unit {0}) Refusal → Bool → Result (Unit {0}) Refusal
  then_limits (Err e) full = Err e
  then_limits (Ok u) full = cond full (Err refusals.TooMany) (Ok tt)

  limits_last : (a b c d e f full : Bool)
      → cond a (Err refusals.BadParam)
      (cond b (Err refusals.UnknownNamespace)
      (cond c (Err refusals.NotMine) (cond d (Err refusals.Terminated) (cond e (Err refusals.Busy) (cond f (Err refusals.NotAParticipant) (cond full (Err refusals.TooMany) (Ok (tt {0}))))))))
      ≡ then_limits (entry_chain a b c d e f) full
  limits_last true b c d e f full = refl
  limits_last false true c d e f full = refl
  limits_last false false true d e f full = refl
  limits_last false false false true e f full = refl
  limits_last false false false false true f full = refl
  limits_last false false false false false true full = refl
  limits_last false false false false false false full = refl

  module _ (list : List Proc) (collect : Bool) where
    abbrev pub is_full : Bool
    is_full = signature_cause h (signature_of jobs p list collect) p refusals.TooMany

    entry_first : first_of (cause jobs id h (Act.request (Request.enter p list collect))) (tt {0}) ≡ then_limits (first_of (entry_cause jobs id h p list) tt) is_full
    unfolding cause request_cause
    entry_first =
        limits_last (entry_cause jobs id h p list refusals.BadParam) (entry_cause jobs id h p list refusals.UnknownNamespace) (entry_cause jobs id h p list refusals.NotMine)
        (entry_cause jobs id h p list refusals.Terminated) (entry_cause jobs id h p list refusals.Busy) (entry_cause jobs id h p list refusals.NotAParticipant) is_full

    pub entry_refused : (e : Refusal) → first_of (entry_cause jobs id h p list) (tt {0}) ≡ Err e → first_of (cause jobs id h (Act.request (Request.enter p list collect))) (tt {0}) ≡ Err e
    entry_refused e is = entry_first ∙ ap (λ r. then_limits r is_full) is

    pub entry_by : (full : Bool) → first_of (entry_cause jobs id h p list) (tt {0}) ≡ Ok tt → is_full ≡ full
        → first_of (cause jobs id h (Act.request (Request.enter p list collect))) (tt {0}) ≡ cond full (Err refusals.TooMany) (Ok tt)
    entry_by full is limits = entry_first ∙ (λ i. then_limits (is i) (limits i))

    pub entry_not_memory : first_of (entry_cause jobs id h p list) (tt {0}) ≡ Err refusals.NoMemory → ⊥
    entry_not_memory = never_short (entry_cause jobs id h p list)

pub some_mapped_is : {A B : Type 0} (f : A → B) (o : Option A) → is_some (option_map f o) ≡ is_some o
some_mapped_is f None = refl
some_mapped_is f (Some x) = refl

-- the same, as a node's parts tell
module _
    (table : Known)
    (id : ℕ)
    (board : Board)
    (own : LocalCommits)
    (calls : Calls)
    (held : Requests)
    (marks : Levels)
    (s : Server)
    (view : server_of table id board own calls held marks ≡ s)
    (jobs : Jobs)
    (same : jobs ≡ table.jobs)
    (p : Proc)
    (list : List Proc) where
  abbrev parts : Server
  parts = server_of table id board own calls held marks

  pub judged_now : (a b c d e f : Bool) → is_bad_by jobs p list ≡ a → is_unknown_by jobs p list ≡ b → (home_of jobs p == id) ≡ c → (sealed_of own p).ended ≡ d
      → is_some (finite.get calls p) ≡ e → entry_cause table.jobs id parts.holding p list refusals.NotAParticipant ≡ f
      → first_of (entry_cause s.jobs s.id s.holding p list) (tt {0}) ≡ entry_chain a b (not c) d e f
  judged_now a b c d e f bad unknown home ended busy outside =
      ap (λ (x : Server). first_of (entry_cause x.jobs x.id x.holding p list) (tt {0})) (sym view)
      ∙ judged table.jobs id parts.holding p list a b c d e f (ap (λ j. is_bad_by j p list) (sym same) ∙ bad) (ap (λ j. is_unknown_by j p list) (sym same) ∙ unknown)
      (ap (λ j. home_of j p == id) (sym same) ∙ home) ended busy outside

  pub judged_all_now : (f : Bool) → is_bad_by jobs p list ≡ false → is_unknown_by jobs p list ≡ false → (home_of jobs p == id) ≡ true → (sealed_of own p).ended ≡ false
      → is_some (finite.get calls p) ≡ false → is_outside_by jobs p list ≡ f → first_of (entry_cause s.jobs s.id s.holding p list) (tt {0}) ≡ cond f (Err refusals.NotAParticipant) (Ok tt)
  judged_all_now f bad unknown home ended busy outside =
      ap (λ (x : Server). first_of (entry_cause x.jobs x.id x.holding p list) (tt {0})) (sym view)
      ∙ judged_all table.jobs id parts.holding p list f (ap (λ j. is_bad_by j p list) (sym same) ∙ bad) (ap (λ j. is_unknown_by j p list) (sym same) ∙ unknown)
      (ap (λ j. home_of j p == id) (sym same) ∙ home) ended busy (ap (λ j. is_outside_by j p list) (sym same) ∙ outside)

-- ---- the name of the fence

name_none : (b : Bool) (f : FenceName) → cond b None (Some f) ≡ None → b ≡ true
name_none true f is = refl
name_none false f is = absurd cc

name_some : (b : Bool) (f name : FenceName) → cond b None (Some f) ≡ Some name → (b ≡ false) × (name ≡ f)
name_some true f name is = absurd cc
name_some false f name is = (refl, sym cc)

-- ---- what is replied

abbrev refused_as : Refusal → Result (Unit {0}) Refusal
refused_as e = Err e

module _ (s : Server) (p : Proc) (list : List Proc) (collect : Bool) where
  abbrev pub enters : Act
  enters = Act.request (Request.enter p list collect)

  pub entry_told : (e : Refusal) → first_of (entry_cause s.jobs s.id s.holding p list) (tt {0}) ≡ Err e → RefusesAct s enters e
  entry_told e is =
      let told = refused_reply s enters e (entry_refused s.jobs s.id s.holding p list collect e is) in
      refuses_due s enters e (λ memory. entry_not_memory s.jobs s.id s.holding p list collect (is ∙ ap refused_as (refused_apart e refusals.NoMemory (sym told ∙ memory)))) told

  -- one that is due no refusal
  pub enters_it : first_of (cause s.jobs s.id s.holding enters) (tt {0}) ≡ Ok tt → IsAccepted (reply_to s enters)
  unfolding does serves
  enters_it free = subst IsAccepted (sym (ap (λ (d : Done). d.reply) (act_free s.jobs s.id s.holding enters free))) tt

  abbrev pub asked : Signature
  asked = signature_of s.jobs p list collect

  -- where its participants are not too many, and only the number of its entries is left to be judged
  pub entry_short : first_of (entry_cause s.jobs s.id s.holding p list) (tt {0}) ≡ Ok tt → nat_lt 4096 (set.len asked.participants) ≡ false → RefusesAct s enters refusals.NoMemory
  entry_short is few = by_count (nat_le 4294967295 (count_of s.holding.table asked p)) refl
    where
      full_by : (a b c : Bool) → a ≡ false → b ≡ c → (a || b) ≡ c
      full_by true b c none same = absurd (false≢true (sym none))
      full_by false b c none same = same

      by_count : (spent : Bool) → nat_le 4294967295 (count_of s.holding.table asked p) ≡ spent → RefusesAct s enters refusals.NoMemory
      by_count true spent =
          inr (
            refused_reply s enters refusals.TooMany
                (entry_by s.jobs s.id s.holding p list collect true is
                (full_by (nat_lt 4096 (set.len asked.participants)) (nat_le 4294967295 (count_of s.holding.table asked p)) true few spent)),
            (ltb-false 4096 (set.len asked.participants) few, leb-true 4294967295 (count_of s.holding.table asked p) spent),
          )
      by_count false spent =
          inl (enters_it (entry_by s.jobs s.id s.holding p list collect false is
          (full_by (nat_lt 4096 (set.len asked.participants)) (nat_le 4294967295 (count_of s.holding.table asked p)) false few spent)))

  -- where it passes a limit
  pub entry_limited : first_of (entry_cause s.jobs s.id s.holding p list) (tt {0}) ≡ Ok tt → entered_name s.jobs s.holding p list collect ≡ None
      → first_of (cause s.jobs s.id s.holding enters) (tt {0}) ≡ Err refusals.TooMany
  entry_limited is none =
      entry_by s.jobs s.id s.holding p list collect true is
      (name_none (is_full s.jobs s.id s.holding p list collect) (next_name s.holding.table (signature_of s.jobs p list collect) p) none)

  -- ---- what comes of it

  abbrev pub its_name : FenceName
  its_name = next_name s.holding.table (signature_of s.jobs p list collect) p

  -- and where it passes none
  pub entry_named : (name : FenceName) → first_of (entry_cause s.jobs s.id s.holding p list) (tt {0}) ≡ Ok tt → entered_name s.jobs s.holding p list collect ≡ Some name
      → (first_of (cause s.jobs s.id s.holding enters) (tt {0}) ≡ Ok tt) × (name ≡ its_name)
  entry_named name is there =
      let found = name_some (is_full s.jobs s.id s.holding p list collect) its_name name there in
      (entry_by s.jobs s.id s.holding p list collect false is found.0, found.1)

  entry_act : first_of (cause s.jobs s.id s.holding enters) (tt {0}) ≡ Ok tt
      → ChangesFence s enters its_name (changes.Entered p (sealer_of s.holding p).level) (Reply.entered its_name.instance) (finite.insert s.holding.calls p (CallState.in_fence its_name))
  unfolding does serves due_by due_by_request marked_by_act
  entry_act free = record {
    free = free;
    done = refl;
    loud = refl;
    differs = enter_differs s.jobs s.id s.holding its_name (changes.Entered p (sealer_of s.holding p).level) p;
    owes = λ left is. ap (λ t. flat_map (announcing s.jobs s.id) (news s.jobs s.id s.holding.table t its_name)) is;
    asked = λ marks. refl;
  }

  module _ (inside : Inside) (view : server_in inside ≡ s) (kept : IsInside inside)
      (free : first_of (cause s.jobs s.id s.holding enters) (tt {0}) ≡ Ok tt)
      (name : FenceName) (named : name ≡ its_name) (ended : Calls) (table_then : Known) (marks_then : Levels) where
    pub entry_steps : AreSettledIn name inside.table.jobs inside.id (placed_by inside.table.fences name (changes.Entered p (sealed_of inside.own p).level)) inside.board.near inside.board.far
        (finite.insert inside.calls p (CallState.in_fence name)) ended
        → table_then ≡ fence_after inside.table name (changes.Entered p (sealed_of inside.own p).level)
        → marks_then ≡ (sends_in inside (fence_dues inside.table name (changes.Entered p (sealed_of inside.own p).level))).marks
        → Steps s enters (Reply.entered its_name.instance) table_then inside.id inside.held.anew (server_with inside table_then ended marks_then)
        (sends_in inside (fence_dues inside.table name (changes.Entered p (sealed_of inside.own p).level))).frames
    entry_steps are table_is marks_are =
        fence_steps inside s view kept enters its_name (changes.Entered p (sealer_of s.holding p).level) (Reply.entered its_name.instance)
        (λ (m : Calls). finite.insert m p (CallState.in_fence its_name)) (entry_act free) name named (changes.Entered p (sealed_of inside.own p).level)
        (ap (λ (x : Server). changes.Entered p (sealer_of x.holding p).level) view) ended
        (subst
        (λ f. AreSettledIn name inside.table.jobs inside.id (placed_by inside.table.fences name (changes.Entered p (sealed_of inside.own p).level)) inside.board.near inside.board.far
        (finite.insert inside.calls p (CallState.in_fence f)) ended)
        named are) table_then table_is marks_then marks_are

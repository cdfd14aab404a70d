-- Transcripts with one call more, and what follows from them.
use Rattle.std.specs.Prelude.{OnOk, OnErr}
use Rattle.std.proofs.Common.{◌≡◌, ℕ, Bool, false, List, [], ◌∷◌, ◌++◌, Result, Ok, Err, map, refl, sym, ap, ◌∙◌}
use Rattle.std.proofs.lemmas.List.{map-append}
use Rattle.pmg_value.specs.declared.refusal.Refusal.{Refusal}
use Rattle.pmg_value.specs.declared.refusal.Refusal.TheVariants as refusals
use Rattle.pmg_scope.specs.Cached.{Cached, no_puts, with_put}
use Rattle.pmg_scope.specs.declared.scope.Scope.{Scope}
use Rattle.pmg_node_model.specs.Acts.{Reply}
use Rattle.pmg_journal.specs.Transcripts.{Calling, Noted, NotesCall, cached_after, cached_by, noted, noted_of, waits_after, waits_by}
use Rattle.pmg_journal.specs.declared.transcript.Called.{Called}

cached_more : (c : Cached) (ns : List Noted) (n : Noted) → cached_after c (ns ++ n ∷ []) ≡ cached_by (cached_after c ns) n.call n.reply
cached_more c [] n = refl
cached_more c (m ∷ ns) n = cached_more (cached_by c m.call m.reply) ns n

waits_more : (w : Bool) (ns : List Noted) (n : Noted) → waits_after w (ns ++ n ∷ []) ≡ waits_by (waits_after w ns) n.call n.reply
waits_more w [] n = refl
waits_more w (m ∷ ns) n = waits_more (waits_by w m.call m.reply) ns n

-- the calls with one more at their end
pub noted_more : (calls more : List Called) (x : Called) → more ≡ calls ++ x ∷ [] → map noted_of more ≡ map noted_of calls ++ noted_of x ∷ []
noted_more calls more x is = ap (map noted_of) is ∙ map-append noted_of calls (x ∷ [])

-- what was put, and whether a call waits, once one call more is noted
pub cached_on : (calls more : List Called) (x : Called) → more ≡ calls ++ x ∷ [] → (c d : Cached) → c ≡ cached_after no_puts (map noted_of calls)
    → d ≡ cached_by c (noted_of x).call (noted_of x).reply → d ≡ cached_after no_puts (map noted_of more)
cached_on calls more x is c d was now =
    now ∙ ap (λ (z : Cached). cached_by z (noted_of x).call (noted_of x).reply) was ∙ sym (cached_more no_puts (map noted_of calls) (noted_of x))
    ∙ ap (cached_after no_puts) (sym (noted_more calls more x is))

pub waits_on : (calls more : List Called) (x : Called) → more ≡ calls ++ x ∷ [] → (w v : Bool) → w ≡ waits_after false (map noted_of calls)
    → v ≡ waits_by w (noted_of x).call (noted_of x).reply → v ≡ waits_after false (map noted_of more)
waits_on calls more x is w v was now =
    now ∙ ap (λ (z : Bool). waits_by z (noted_of x).call (noted_of x).reply) was ∙ sym (waits_more false (map noted_of calls) (noted_of x)) ∙ ap (waits_after false) (sym (noted_more calls more x is))

-- a put that is answered so
module _ (ns more : List Noted) (scope : Scope) (key value : List ℕ) (c d : Cached) where
  abbrev IsPut : Result Unit Refusal → Type 0
  IsPut answer = NotesCall ns more (Calling.put scope key value) (λ _. Reply.done) answer

  pub put_cached : (answer : Result Unit Refusal) → c ≡ cached_after no_puts ns → OnOk answer (d ≡ with_put c scope key value) → OnErr answer (d ≡ c) → IsPut answer
      → d ≡ cached_after no_puts more
  put_cached (Ok x) was ok err is =
      ok ∙ ap (λ (z : Cached). with_put z scope key value) was ∙ sym (cached_more no_puts ns (noted (Calling.put scope key value) Reply.done)) ∙ ap (cached_after no_puts) (sym is)
  put_cached (Err refusals.NoMemory) was ok err is = err ∙ was ∙ ap (cached_after no_puts) (sym is)
  put_cached (Err e) was ok err is =
      err ∙ was ∙ sym (cached_more no_puts ns (noted (Calling.put scope key value) (Reply.refused e))) ∙ ap (cached_after no_puts) (sym is)

  pub put_waits : (w : Bool) → (answer : Result Unit Refusal) → w ≡ waits_after false ns → IsPut answer → w ≡ waits_after false more
  put_waits w (Ok x) was is = was ∙ sym (waits_more false ns (noted (Calling.put scope key value) Reply.done)) ∙ ap (waits_after false) (sym is)
  put_waits w (Err refusals.NoMemory) was is = was ∙ ap (waits_after false) (sym is)
  put_waits w (Err e) was is = was ∙ sym (waits_more false ns (noted (Calling.put scope key value) (Reply.refused e))) ∙ ap (waits_after false) (sym is)

-- What is told of a run, and the laws of every run.
use Rattle.std.proofs.Common.{◌≡◌, ◌≤◌, List, [], ◌∷◌, ◌++◌, None, refl, sym, ap, subst, ◌∙◌, append_assoc}
use Rattle.pmg_scope.specs.Scripts.{commits}
use Rattle.pmg_jobinfo.specs.Jobs.{Jobs, AreJobs, home_of}
use Rattle.pmg_fence.specs.Entering.{entry}
use Rattle.pmg_fence.specs.Rules.{Scripts, gone_of}
use Rattle.pmg_fence.proofs.LineLemmas.{append_empty}
use Rattle.pmg_get.specs.Gets.{resolve}
use Rattle.pmg_get.specs.declared.view.Mode.TheVariants as modes
use Rattle.pmg_node_model.specs.Acts.{Reply}
use Rattle.pmg_node_model.specs.Fitting.{last_fence}
use Rattle.pmg_node_model.specs.declared.sent.Sent.{Sent}
use Rattle.pmg_group_model.specs.Lawful.{scripts_told, leaves_with, asks_with, takes_with, KeepsFence, ReleasesWhole, ReleasesAlike, AnswersNeverFall, RefreshesAnew, IsLawful}
use Rattle.pmg_group_model.specs.Laws.{AnswersRise, answers, seen_at}
use Rattle.pmg_group_model.specs.Worlds.{World, Doing, Does, Happened, Step, Run, doing, start}
use Rattle.pmg_group_model.proofs.Leaving.{released_whole, released_alike}
use Rattle.pmg_group_model.proofs.Refreshed.{refresh_theorem}
use Rattle.pmg_group_model.proofs.Rising.{fence_theorem, gets_rise}
use Rattle.pmg_group_model.proofs.ToldScripts.{scripts_are_told}

-- ---- runs in parts

-- a run of one list of events and then another
pub record IsCut (jobs : Jobs) (w : World) (xs ys : List Happened) (v : World) : Type 0 where
  pub mid : World
  pub first : Run jobs w xs mid
  pub second : Run jobs mid ys v

pub run_cut : (jobs : Jobs) (xs ys : List Happened) (w v : World) → Run jobs w (xs ++ ys) v → IsCut jobs w xs ys v
unfolding Run
run_cut jobs [] ys w v run = record { mid = w; first = refl; second = run }
run_cut jobs (x ∷ xs) ys w v run =
    let rest = run_cut jobs xs ys run.0 v run.2 in
    record { mid = rest.mid; first = (run.0, run.1, rest.first); second = rest.second }

pub run_both : (jobs : Jobs) (xs ys : List Happened) (w m v : World) → Run jobs w xs m → Run jobs m ys v → Run jobs w (xs ++ ys) v
unfolding Run
run_both jobs [] ys w m v one other = subst (λ (x : World). Run jobs x ys v) one other
run_both jobs (x ∷ xs) ys w m v one other = (one.0, one.1, run_both jobs xs ys one.0 m v one.2 other)

-- one event, and then others
pub record IsNext (jobs : Jobs) (w : World) (x : Happened) (xs : List Happened) (v : World) : Type 0 where
  pub mid : World
  pub step : Step jobs w x.event x.reply mid
  pub rest : Run jobs mid xs v

pub run_next : (jobs : Jobs) (w : World) (x : Happened) (xs : List Happened) (v : World) → Run jobs w (x ∷ xs) v → IsNext jobs w x xs v
unfolding Run
run_next jobs w x xs v run = record { mid = run.0; step = run.1; rest = run.2 }

pub next_run : (jobs : Jobs) (w : World) (x : Happened) (xs : List Happened) (v : World) → IsNext jobs w x xs v → Run jobs w (x ∷ xs) v
unfolding Run
next_run jobs w x xs v next = (next.mid, next.step, next.rest)

pub run_none : (jobs : Jobs) (w : World) → Run jobs w [] w
unfolding Run
run_none jobs w = refl

-- one event more
pub run_more : (jobs : Jobs) (xs : List Happened) (w m : World) (x : Happened) (v : World) → Run jobs w xs m → Step jobs m x.event x.reply v → Run jobs w (xs ++ x ∷ []) v
run_more jobs xs w m x v run step = run_both jobs xs (x ∷ []) w m v run (next_run jobs m x [] v (record { mid = v; step = step; rest = run_none jobs v }))

-- ---- frames

-- frames are sent after those that were sent before
pub record Sends (w v : World) : Type 0 where
  pub out : List Sent
  pub sent : v.sent ≡ w.sent ++ out

does_send : (jobs : Jobs) (w : World) (d : Doing) (r : Reply) (v : World) → Does jobs w d r v → Sends w v
does_send jobs w (Doing.at_node node a) r v step = record { out = step.out; sent = ap (λ (x : World). x.sent) step.left }
does_send jobs w (Doing.by_cache answer said) r v step = record { out = []; sent = ap (λ (x : World). x.sent) step.left ∙ sym (append_empty w.sent) }

pub run_sends : (jobs : Jobs) (w : World) (xs : List Happened) (v : World) → Run jobs w xs v → Sends w v
unfolding Run
run_sends jobs w [] v run = record { out = []; sent = ap (λ (x : World). x.sent) run ∙ sym (append_empty w.sent) }
run_sends jobs w (x ∷ xs) v run =
    let one = does_send jobs w (doing jobs w x.event) x.reply run.0 run.1 in
    let rest = run_sends jobs run.0 xs v run.2 in
    record { out = one.out ++ rest.out; sent = rest.sent ∙ ap (λ (l : List Sent). l ++ rest.out) one.sent ∙ append_assoc w.sent one.out rest.out }

-- ---- the laws

module _ (jobs : Jobs) (are : AreJobs jobs) where
  -- the scripts at the end of a run
  told_at : (xs : List Happened) (w : World) → Run jobs (start jobs) xs w → w.scripts ≡ scripts_told jobs xs
  told_at xs w run = scripts_are_told jobs (start jobs) xs w run

  -- a run, cut where an event happens
  record CutAt (xs : List Happened) (x : Happened) (ys : List Happened) (w : World) : Type 0 where
    before : World
    run : Run jobs (start jobs) xs before
    next : IsNext jobs before x ys w

  cut_at : (told xs : List Happened) (x : Happened) (ys : List Happened) (w : World) → told ≡ xs ++ x ∷ ys → Run jobs (start jobs) told w → CutAt xs x ys w
  cut_at told xs x ys w cut run =
      let parts = run_cut jobs xs (x ∷ ys) (start jobs) w (subst (λ l. Run jobs (start jobs) l w) cut run) in
      record { before = parts.mid; run = parts.first; next = run_next jobs parts.mid x ys w parts.second }

  keeps_fence : (told : List Happened) (w : World) → Run jobs (start jobs) told w → KeepsFence jobs told
  unfolding KeepsFence
  keeps_fence told w run xs ys node p k gone cut f last collects q i apart =
      let at = cut_at told xs (leaves_with node p k gone) ys w cut run in
      let before = told_at xs at.before at.run in
      let law = fence_theorem jobs are xs at.before at.run p k gone at.next.mid (node, at.next.step) f (ap (λ (s : Scripts). last_fence (s p)) before ∙ last) collects q i apart ys w at.next.rest in
      (law.0, ap (λ (s : Scripts). entry (s q) f) (sym before) ∙ law.1, subst (λ (s : Scripts). AnswersRise jobs (home_of jobs p) (s q) law.0.level (answers p q None ys)) (told_at told w run) law.2)

  releases_whole : (told : List Happened) (w : World) → Run jobs (start jobs) told w → ReleasesWhole jobs told
  unfolding ReleasesWhole
  releases_whole told w run xs ys node p k gone cut =
      let at = cut_at told xs (leaves_with node p k gone) ys w cut run in
      let before = told_at xs at.before at.run in
      let law = released_whole jobs are xs at.before at.run p k gone at.next.mid (node, at.next.step) in (
        law.0,
        ap (λ (s : Scripts). last_fence (s p)) (sym before) ∙ law.1,
        law.2,
        law.3 ∙ ap (λ (s : Scripts). gone_of s law.0) before,
        λ q i. let its = law.4 q i in (its.0, ap (λ (s : Scripts). entry (s q) law.0) (sym before) ∙ its.1),
      )

  -- a run, cut where two events happen
  record CutTwice (xs : List Happened) (x : Happened) (ys : List Happened) (y : Happened) (zs : List Happened) (w : World) : Type 0 where
    before : World
    run : Run jobs (start jobs) xs before
    after : World
    step : Step jobs before x.event x.reply after
    mid : World
    rest : Run jobs after ys mid
    last : World
    then : Step jobs mid y.event y.reply last
    first_told : before.scripts ≡ scripts_told jobs xs
    then_told : mid.scripts ≡ scripts_told jobs (xs ++ x ∷ ys)

  cut_twice : (told xs : List Happened) (x : Happened) (ys : List Happened) (y : Happened) (zs : List Happened) (w : World) → told ≡ xs ++ x ∷ (ys ++ y ∷ zs)
      → Run jobs (start jobs) told w → CutTwice xs x ys y zs w
  cut_twice told xs x ys y zs w cut run =
      let at = cut_at told xs x (ys ++ y ∷ zs) w cut run in
      let parts = run_cut jobs ys (y ∷ zs) at.next.mid w at.next.rest in
      let then = run_next jobs parts.mid y zs w parts.second in
      let middle = run_both jobs xs (x ∷ ys) (start jobs) at.before parts.mid at.run (next_run jobs at.before x ys parts.mid (record { mid = at.next.mid; step = at.next.step; rest = parts.first })) in
      record {
        before = at.before;
        run = at.run;
        after = at.next.mid;
        step = at.next.step;
        mid = parts.mid;
        rest = parts.first;
        last = then.mid;
        then = then.step;
        first_told = told_at xs at.before at.run;
        then_told = told_at (xs ++ x ∷ ys) parts.mid middle;
      }

  releases_alike : (told : List Happened) (w : World) → Run jobs (start jobs) told w → ReleasesAlike jobs told
  unfolding ReleasesAlike
  releases_alike told w run xs ys zs m n p q k j gone others cut same =
      let at = cut_twice told xs (leaves_with m p k gone) ys (leaves_with n q j others) zs w cut run in
      released_alike jobs are xs at.before at.run p k gone at.after (m, at.step) ys at.mid at.rest q j others at.last (n, at.then)
      (ap (λ (s : Scripts). last_fence (s p)) at.first_told ∙ same ∙ ap (λ (s : Scripts). last_fence (s q)) (sym at.then_told))

  refreshes_anew : (told : List Happened) (w : World) → Run jobs (start jobs) told w → RefreshesAnew jobs told
  unfolding RefreshesAnew
  refreshes_anew told w run xs ys zs node m p get r cut stays o is =
      let at = cut_twice told xs (asks_with node p get) ys (takes_with m p r) zs w cut run in
      let law = refresh_theorem jobs are xs at.before at.run p get node at.after at.step ys at.mid at.rest stays m r at.last at.then o is in (
        law.0,
        subst (λ (s : Scripts). commits (s get.target) ≤ law.0) at.first_told law.1,
        subst (λ (s : Scripts). law.0 ≤ commits (s get.target)) at.then_told law.2,
        subst (λ (s : Scripts). o ≡ resolve (seen_at jobs (home_of jobs p) (s get.target) law.0 get) modes.Now) at.then_told law.3,
      )

  answers_never_fall : (told : List Happened) (w : World) → Run jobs (start jobs) told w → AnswersNeverFall jobs told
  unfolding AnswersNeverFall
  answers_never_fall told w run p q apart =
      subst (λ (s : Scripts). AnswersRise jobs (home_of jobs p) (s q) 0 (answers p q None told)) (told_at told w run) (gets_rise jobs are told w run p q apart)

  pub run_is_lawful : (told : List Happened) (w : World) → Run jobs (start jobs) told w → IsLawful jobs told
  run_is_lawful told w run = record {
    keeps_fence = keeps_fence told w run;
    releases_whole = releases_whole told w run;
    releases_alike = releases_alike told w run;
    answers_never_fall = answers_never_fall told w run;
    refreshes_anew = refreshes_anew told w run;
  }

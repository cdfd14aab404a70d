use Rattle.pmg_scope.proofs.CacheLaws.{new_fits, put_fits, commit_fits, enter_fits, end_fits, cache_is_one, commit_seals_next}
use Rattle.pmg_scope.proofs.laws.cache_rules.Goals as goal

pub returns : goal.returns
returns c = record { new_fits = new_fits; put_fits = put_fits; commit_fits = commit_fits; enter_fits = enter_fits; end_fits = end_fits; cache_is_one = cache_is_one; commit_seals_next = commit_seals_next }

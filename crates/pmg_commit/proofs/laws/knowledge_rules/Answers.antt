use Rattle.pmg_commit.specs.CoreLaws.{core-core}
use Rattle.pmg_commit.proofs.Joining.{core_of_union, alike_after}
use Rattle.pmg_commit.proofs.Rules.{numbers_are_between, level_is_reach, level_grows, level_reaches, read_is_latest, read_is_none, core_reads_alike, core_is_least, alike_now}
use Rattle.pmg_commit.proofs.laws.knowledge_rules.Goals as goal

pub returns : goal.returns
returns c = record {
  numbers_between = numbers_are_between;
  level_is_reach = level_is_reach;
  level_grows = level_grows;
  level_reaches = level_reaches;
  read_is_latest = read_is_latest;
  read_is_none = read_is_none;
  core_reads_alike = core_reads_alike;
  core_of_union = core_of_union;
  core_of_core = core-core;
  core_is_least = core_is_least;
  alike_now = alike_now;
  alike_after = alike_after;
}

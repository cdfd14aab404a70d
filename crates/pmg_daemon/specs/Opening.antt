-- The opening of a daemon's node.
use Rattle.std.specs.Prelude.{◌≡◌, ◌⊎◌, ℕ, ◌+◌, true, false, List, [], length, Some, None, Ok, Err}
use Rattle.pmg_value.specs.Lists.{Each}
use Rattle.pmg_value.specs.Refusals.{number_of}
use Rattle.pmg_value.specs.declared.refusal.Refusal.{Refusal}
use Rattle.pmg_value.specs.declared.refusal.Refusal.TheVariants as refusals
use Rattle.pmg_jobinfo.specs.Jobs.{Jobs, is_node}
use Rattle.pmg_grouptext.specs.Groups.{ReadsGroup, group_in}
use Rattle.pmg_node.specs.Opening.{new_server}
use Rattle.pmg_node.specs.declared.act.Reply.TheVariants as replies
use Rattle.pmg_link.specs.Links.{new_link}
use Rattle.pmg_link.specs.declared.inbox.Inbox.{Inbox}
use Rattle.pmg_daemon.specs.declared.codes.TheConstants.{REFUSED}
use Rattle.pmg_daemon.specs.declared.daemon.Daemon.{Daemon}

-- nothing has come into the inbox yet
pub record IsNewInbox (i : Inbox) : Type 0 where
  pub stream : i.stream ≡ Some (record { offset = 0; rest = [] })
  pub frames : i.frames.items ≡ []
  pub fault : i.fault ≡ None

-- It is the node of that index in the group that the text describes, without calls so far.
pub record OpensNode (id : ℕ) (group : List ℕ) (d : Daemon) : Type 0 where
  pub group_is : group_in group ≡ Ok d.link.node.jobs
  pub node : is_node d.link.node.jobs id ≡ true
  pub link : d.link ≡ new_link (new_server d.link.node.jobs id)
  pub inboxes : length d.inboxes.items ≡ length d.link.node.jobs.nodes
  pub empty : Each IsNewInbox d.inboxes.items
  pub list : d.list.items ≡ []
  pub reply : d.reply ≡ replies.Done

-- The reason why no node is opened: the refusal of the text, or the group has no node of that index.
abbrev pub RefusesToOpen : ℕ → List ℕ → Refusal → Type 0
RefusesToOpen id group e =
    ReadsGroup (λ (jobs : Jobs). jobs) (Err e) (group_in group) ⊎ ((e ≡ refusals.BadParam) × ((jobs : Jobs) × ((group_in group ≡ Ok jobs) × (is_node jobs id ≡ false))))

-- The code is the code of such a refusal.
abbrev pub FailsToOpen : ℕ → List ℕ → ℕ → Type 0
FailsToOpen id group code = (e : Refusal) × ((code ≡ REFUSED + number_of e) × RefusesToOpen id group e)

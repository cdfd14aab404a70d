-- Reserved keys: what each is answered with.
use Rattle.std.specs.Prelude.{ℕ, Bool, ◌||◌, ◌==◌, List, [], ◌∷◌, Option, Some, None, take, length, codes, decimal, get_or, if◌then◌else◌}
use Rattle.std.specs.List.{count_by, filter, find, join_by, list_any}
use Rattle.std.specs.Str.{bytes_eq}
use Rattle.pmg_value.specs.declared.process.Proc.{Proc}
use Rattle.pmg_value.specs.declared.value.Value.{Value}
use Rattle.pmg_value.specs.declared.value.Value.TheVariants as values
use Rattle.pmg_jobinfo.specs.declared.reserved.ReservedKey.{ReservedKey}
use Rattle.pmg_jobinfo.specs.declared.reserved.ReservedKey.TheVariants as keys
use Rattle.pmg_jobinfo.specs.Jobs.{Jobs, homes_of, size_of, home_of}
use Rattle.pmg_jobinfo.specs.Expansion.{is_all, is_undefined, ranks}

-- the names of the keys (PMIx Standard 5.0, reserved keys)
abbrev pub key_name : ReservedKey → List ℕ
key_name keys.JobSize = codes "pmix.job.size"
key_name keys.NumNodes = codes "pmix.num.nodes"
key_name keys.JobId = codes "pmix.jobid"
key_name keys.LocalSize = codes "pmix.local.size"
key_name keys.LocalPeers = codes "pmix.lpeers"
key_name keys.NodeIndex = codes "pmix.nodeid"
key_name keys.HostName = codes "pmix.hname"
key_name keys.ProcRank = codes "pmix.rank"
key_name keys.LocalRank = codes "pmix.lrank"

-- all of them
abbrev pub all_keys : List ReservedKey
all_keys = keys.JobSize ∷ keys.NumNodes ∷ keys.JobId ∷ keys.LocalSize ∷ keys.LocalPeers ∷ keys.NodeIndex ∷ keys.HostName ∷ keys.ProcRank ∷ keys.LocalRank ∷ []

-- the one of that name
unfoldable pub key_of : List ℕ → Option ReservedKey
key_of name = find (λ key. bytes_eq name (key_name key)) all_keys

-- no particular rank is named: PMIX_RANK_WILDCARD and PMIX_RANK_UNDEF have one meaning here
abbrev pub is_general : Proc → Bool
is_general p = is_all p || is_undefined p

-- the node of which a reserved key tells: that of the process if a particular one is named, else the one that asks
abbrev pub node_of : Jobs → ℕ → Proc → ℕ
node_of jobs asking p = if is_general p then asking else home_of jobs p

-- how many of the homes are at the node
abbrev pub count_at : ℕ → List ℕ → ℕ
count_at node homes = count_by (λ home. home == node) homes

-- the ranks at home at the node, rising
abbrev pub ranks_at : ℕ → List ℕ → List ℕ
ranks_at node homes = filter (λ rank. get_or homes rank 0 == node) (ranks (length homes))

-- these ranks in decimal, with commas between them
abbrev pub peers_text : ℕ → List ℕ → List ℕ
peers_text node homes = join_by decimal (codes ",") (ranks_at node homes)

-- how many of so many nodes are the home of a rank
abbrev pub count_hosts : ℕ → List ℕ → ℕ
count_hosts nodes homes = count_by (λ node. list_any (λ home. home == node) homes) (ranks nodes)

-- What a key is answered with, where the process is named and its key tells of that node.
abbrev pub value_of_key : ReservedKey → Jobs → ℕ → Proc → Option Value
value_of_key keys.JobSize jobs node p = Some (values.U32 (size_of jobs p.nspace))
value_of_key keys.NumNodes jobs node p = Some (values.U32 (count_hosts (length jobs.nodes) (homes_of jobs p.nspace)))
value_of_key keys.JobId jobs node p = Some (values.Str p.nspace)
value_of_key keys.LocalSize jobs node p = Some (values.U32 (count_at node (homes_of jobs p.nspace)))
value_of_key keys.LocalPeers jobs node p = Some (values.Str (peers_text node (homes_of jobs p.nspace)))
value_of_key keys.NodeIndex jobs node p = Some (values.U32 node)
value_of_key keys.HostName jobs node p = Some (values.Str (get_or jobs.nodes node []))
value_of_key keys.ProcRank jobs node p = if is_general p then None else Some (values.Rank p.rank)
value_of_key keys.LocalRank jobs node p = if is_general p then None else Some (values.U16 (count_at node (take p.rank (homes_of jobs p.nspace))))

-- the value of the key, none where it is no reserved key or has none
abbrev pub value_if : Option ReservedKey → Jobs → ℕ → Proc → Option Value
value_if None jobs node p = None
value_if (Some key) jobs node p = value_of_key key jobs node p

-- what a reserved key is answered with, asked of the process by a process on the asking node
unfoldable pub reserved_value : Jobs → ℕ → Proc → List ℕ → Option Value
reserved_value jobs asking p key = value_if (key_of key) jobs (node_of jobs asking p) p

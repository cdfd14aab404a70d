-- The content of a fence table, as the value of a model.
use Rattle.std.specs.Prelude.{ℕ, List, refl}
use Rattle.std.specs.Coded.{Coded, code_by, coded×, coded_ℕ, coded_list}
use Rattle.std.specs.FinMap as finite
use Rattle.std.specs.FinSet as set
use Rattle.std.specs.Ordering.{nat_cmp}
use Rattle.pmg_value.specs.Process.{proc_cmp, coded_proc}
use Rattle.pmg_value.specs.Rows.{rows_of}
use Rattle.pmg_value.specs.declared.process.Proc.{Proc}
use Rattle.pmg_frame.specs.FenceOrder.{signature_cmp}
use Rattle.pmg_frame.specs.Fences.{Header, coded_local, coded_signature, coded_header}
use Rattle.pmg_frame.specs.declared.local.Local.{Local}
use Rattle.pmg_jobinfo.specs.Jobs.{Jobs, coded_jobs}
use Rattle.pmg_fence.specs.Tables.{Numbers, Fence, Series, Fences}

-- the code of numbers by process
abbrev pub coded_numbers : Coded Numbers
coded_numbers = finite.code coded_proc coded_ℕ

-- the headers of other nodes, by node
abbrev pub Headers : Type 0
Headers = finite.FinMap nat_cmp (List Local)

-- the headers of a tree, with the lines of each
abbrev pub headers_in : List (ℕ × Header) → Headers
headers_in rows = rows_of (λ h. h.locals) rows

-- the code of headers by node
abbrev pub coded_headers : Coded Headers
coded_headers = finite.code coded_ℕ (coded_list coded_local)

-- the knowledge of a fence, as a pair
abbrev pub coded_fence : Coded Fence
coded_fence = code_by (Numbers × Headers) (coded× coded_numbers coded_headers) (λ f. (f.levels, f.headers)) (λ p. record { levels = p.0; headers = p.1 }) (λ _. refl)

-- the fences of one signature, by instance
abbrev pub Instances : Type 0
Instances = finite.FinMap nat_cmp Fence

-- the code of fences by instance
abbrev pub coded_instances : Coded Instances
coded_instances = finite.code coded_ℕ coded_fence

-- a series as a tuple
abbrev pub coded_series : Coded Series
coded_series =
    code_by (Numbers × (Instances × ℕ)) (coded× coded_numbers (coded× coded_instances coded_ℕ)) (λ s. (s.counts, (s.fences, s.top))) (λ p. record { counts = p.0; fences = p.1.0; top = p.1.1 }) (λ _. refl)

-- all fences, by signature
abbrev pub AllSeries : Type 0
AllSeries = finite.FinMap signature_cmp Series

-- the code of series by signature
abbrev pub coded_all_series : Coded AllSeries
coded_all_series = finite.code coded_signature coded_series

-- own participants, by the signature of their fences
abbrev pub Owns : Type 0
Owns = finite.FinMap signature_cmp (List Proc)

-- the code of own participants by signature
abbrev pub coded_owns : Coded Owns
coded_owns = finite.code coded_signature (coded_list coded_proc)

-- signatures of fences
abbrev pub Signatures : Type 0
Signatures = set.FinSet signature_cmp

-- the code of a set of signatures
abbrev pub coded_signatures : Coded Signatures
coded_signatures = set.code coded_signature

-- the signatures of fences in which an own process takes part, by process
abbrev pub Index : Type 0
Index = finite.FinMap proc_cmp Signatures

-- the code of signatures by process
abbrev pub coded_index : Coded Index
coded_index = finite.code coded_proc coded_signatures

-- the fences of a node, as a pair
abbrev pub coded_fences : Coded Fences
coded_fences = code_by (AllSeries × Numbers) (coded× coded_all_series coded_numbers) (λ t. (t.series, t.ends)) (λ p. record { series = p.0; ends = p.1 }) (λ _. refl)

-- The content of a table: the jobs of the group and the node's index; the fences; and the own headers that began to exist and were not
-- taken yet, the oldest in front.
pub record Known : Type 0 where
  pub jobs : Jobs
  pub node : ℕ
  pub fences : Fences
  pub waiting : List Header

-- the content of a table, as a tuple
abbrev pub coded_known : Coded Known
coded_known =
    code_by (Jobs × (ℕ × (Fences × List Header))) (coded× coded_jobs (coded× coded_ℕ (coded× coded_fences (coded_list coded_header))))
    (λ k. (k.jobs, (k.node, (k.fences, k.waiting)))) (λ p. record { jobs = p.0; node = p.1.0; fences = p.1.1.0; waiting = p.1.1.1 }) (λ _. refl)

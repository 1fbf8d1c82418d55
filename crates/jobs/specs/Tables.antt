-- The jobs of the plain machine that a table stands for.
use Rattle.std.specs.Prelude.{ℕ, suc, ◌+◌, ◌-◌, Bool, false, cond, List, [], ◌∷◌, map, length, take, replicate, Some, None, Option, ◌==◌, nat_le, nat_lt, slice_index_or, slice_set}
use Rattle.ranks.specs.Ranks.{most_ranks, sum_below}
use Rattle.programme.specs.Rank.{Rank}
use Rattle.programme.specs.declared.Merge.{Merge}
use Rattle.programme.specs.declared.Merge.TheVariants.{Replace, Keep, Before, After, Prefix}
use Rattle.schedule.specs.declared.Collective.{Collective}
use Rattle.schedule.specs.declared.Collective.TheVariants.{Broadcast, Gather, Reduce, Scan, Exscan, Allreduce}
use Rattle.schedule.specs.Collective.{kind_of, root_of, actions_of, messages_of}
use Rattle.schedule.specs.declared.Schedule.{Schedule}
use Rattle.machine.specs.Job as machine
use Rattle.jobs.specs.declared.job.Job.{Job}
use Rattle.jobs.specs.declared.job.RankState.{RankState}
use Rattle.jobs.specs.declared.table.Table.{Table}

-- f r, f (r + 1), .. of the elements
abbrev pub numbered_from : {A B : Type 0} → (ℕ → A → B) → ℕ → List A → List B
numbered_from f r [] = []
numbered_from f r (x ∷ xs) = f r x ∷ numbered_from f (suc r) xs

-- whether a rank keeps what it takes
abbrev pub keeps : Collective → ℕ → Bool
keeps (Broadcast root) r = false
keeps (Gather root) r = r == root
keeps (Reduce root) r = false
keeps Scan r = false
keeps Exscan r = false
keeps Allreduce r = false

-- how many elements a finished job gives
abbrev pub result_count : Collective → ℕ → ℕ
result_count (Broadcast root) p = p
result_count (Gather root) p = p
result_count (Reduce root) p = 1
result_count Scan p = p
result_count Exscan p = p
result_count Allreduce p = p

module _ {E : Type 0} where
  -- what the ranks have come to, rank by rank
  abbrev pub states : Job E → List (RankState E)
  states j = j.states

  -- rank r of the plain machine; `kept` is what the rank that keeps has taken
  abbrev pub rank_in : Collective → (kept : List E) → (r : ℕ) → RankState E → Rank E
  rank_in c kept r s = record {
    done = s.done;
    value = s.value;
    prefix = s.prefix;
    kept = cond (keeps c r) (take s.done kept) [];
    arrival = s.arrival;
    departure = s.departure;
  }

  -- the job of the plain machine
  abbrev pub job_of : Job E → machine.Job E
  job_of j = record {
    number = j.number;
    kind = kind_of j.schedule.collective;
    root = root_of j.schedule.collective;
    inputs = take j.schedule.ranks j.inputs;
    ranks = numbered_from (rank_in j.schedule.collective j.kept) 0 (take j.schedule.ranks (states j));
    sent = j.sent;
  }

  abbrev pub pending_jobs : Table E → List (Job E)
  pending_jobs t = take t.pending t.jobs

  -- a rank that holds its input, of which no action is done
  abbrev pub first_state : (unit input : E) → RankState E
  first_state unit input = record { done = 0; value = input; prefix = unit; arrival = 0; departure = 0 }

  -- a job of which no action is done
  abbrev pub first_job : ℕ → Schedule → (inputs : List E) → (unit : E) → Job E
  first_job number schedule inputs unit = record {
    number = number;
    schedule = schedule;
    inputs = inputs;
    states = map (first_state unit) inputs;
    kept = replicate most_ranks unit;
    sent = 0;
  }

  -- the place of the first job of that number, counted from k
  abbrev pub place_from : (k n : ℕ) → List (Job E) → Option ℕ
  place_from k n [] = None
  place_from k n (j ∷ js) = cond (j.number == n) (Some k) (place_from (k + 1) n js)

  abbrev pub place : ℕ → List (Job E) → Option ℕ
  place n js = place_from 0 n js

  -- rank r has come to s, and `sent` turns were answered sent
  abbrev pub with_state : (r : ℕ) → RankState E → (sent : ℕ) → Job E → Job E
  with_state r s sent j = record {
    number = j.number;
    schedule = j.schedule;
    inputs = j.inputs;
    states = slice_set j.states r s;
    kept = j.kept;
    sent = sent;
  }

  -- after a send of rank r
  abbrev pub with_sent : (r : ℕ) → RankState E → Job E → Job E
  with_sent r s j = with_state r s (j.sent + 1) j

  abbrev pub with_kept : ℕ → E → Job E → Job E
  with_kept at v j = record {
    number = j.number;
    schedule = j.schedule;
    inputs = j.inputs;
    states = j.states;
    kept = slice_set j.kept at v;
    sent = j.sent;
  }

  -- the value kept, where the merge is to keep it
  abbrev pub kept_after : Merge → ℕ → E → Job E → Job E
  kept_after Replace at v j = j
  kept_after Keep at v j = with_kept at v j
  kept_after Before at v j = j
  kept_after After at v j = j
  kept_after Prefix at v j = j

  -- after a take of rank r
  abbrev pub with_received : ℕ → RankState E → Merge → ℕ → E → Job E → Job E
  with_received r s merge at v j = with_state r s j.sent (kept_after merge at v j)

  -- whether a rank has no action left, and how many of the first n; d is what stands past the ranks
  abbrev pub idle_at : Job E → (d : RankState E) → ℕ → Bool
  idle_at j d r = nat_le (length (actions_of j.schedule.collective j.schedule.ranks r)) (slice_index_or (states j) r d).done

  abbrev pub idle_below : Job E → (d : RankState E) → ℕ → ℕ
  idle_below j d n = sum_below (λ r. cond (idle_at j d r) 1 0) n

  -- the arrival of a rank
  abbrev pub arrival_at : Job E → (d : RankState E) → ℕ → ℕ
  arrival_at j d r = (slice_index_or (states j) r d).arrival

  -- what the root of a gather has from rank r
  abbrev pub gathered_at : Job E → (d : RankState E) → (root r : ℕ) → E
  gathered_at j d root r =
      cond (nat_lt r root) (slice_index_or j.kept r d.value)
      (cond (r == root) (slice_index_or (states j) root d).value (slice_index_or j.kept (r - 1) d.value))

  -- the element at index i of what a finished job gives
  abbrev pub result_in : Collective → Job E → (d : RankState E) → ℕ → E
  result_in (Broadcast root) j d i = (slice_index_or (states j) i d).value
  result_in (Gather root) j d i = gathered_at j d root i
  result_in (Reduce root) j d i = (slice_index_or (states j) root d).value
  result_in Scan j d i = (slice_index_or (states j) i d).value
  result_in Exscan j d i = (slice_index_or (states j) i d).prefix
  result_in Allreduce j d i = (slice_index_or (states j) i d).value

  abbrev pub result_at : Job E → (d : RankState E) → ℕ → E
  result_at j d i = result_in j.schedule.collective j d i

  -- the messages of all the jobs, by the formulas
  abbrev pub messages_in : List (Job E) → ℕ
  messages_in [] = 0
  messages_in (j ∷ js) = messages_of j.schedule.collective j.schedule.ranks + messages_in js

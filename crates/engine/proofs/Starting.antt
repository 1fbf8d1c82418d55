-- A start, test by test, and the new job.
use Rattle.std.proofs.Common.{◌≡◌, ℕ, zero, suc, ◌+◌, ◌-◌, ◌*◌, ◌<◌, ◌≤◌, Bool, true, false, cond, ◌||◌, eqb, ltb, leb, List, [], ◌∷◌, ◌++◌, map, length, take, drop, replicate, Ok, Err, Result, sym, refl, ap, ◌∙◌, subst, ap₂, arith}
use mathlib.Core.Option.{none, some}
use lib.Seq.{take-append_seam}
use Rattle.std.proofs.lemmas.List.{length-map, take-map, map-append}
use Rattle.std.proofs.lemmas.Bool.{le-ltb, lt-ltb, le-leb, lt-leb, eq-eqb, ne_eqb, or_left}
use denote.Struct.Props.{props}
use Rattle.ranks.specs.Ranks.{most_ranks}
use Rattle.programme.specs.Rank.{Rank, fresh}
use Rattle.programme.specs.Formula.{messages}
use Rattle.schedule.specs.declared.Collective.{Collective}
use Rattle.schedule.specs.declared.Collective.TheVariants.{Broadcast, Gather, Reduce, Scan, Exscan, Allreduce}
use Rattle.schedule.specs.declared.Schedule.{Schedule}
use Rattle.schedule.specs.Collective.{kind_of, root_of, messages_of}
use Rattle.operation.specs.declared.Operation.{Ghosts as Operation}
use Rattle.transport.specs.declared.Transport.{Ghosts as Transport}
use Rattle.machine.specs.Operation.{Meaning, BlockFault}
use Rattle.machine.specs.Network.{Network}
use Rattle.machine.specs.Job as machine
use Rattle.machine.specs.Job.{blocks, elements}
use Rattle.machine.specs.Plain.{Plain, Answer, start, started, refused, unfit, bad_root, bad_length, bad_block, four_pending, crowded, numbers_spent, step, fit, root_for, blocks_read, block_refusal, crowds, messages_pending, new_job}
use Rattle.machine.proofs.Steps.{start_unfit, start_root, start_length, start_block, start_four, start_crowded, start_spent, start_done}
use Rattle.engine_parts.specs.declared.inputs.BadBlock.{BadBlock}
use Rattle.engine_parts.specs.Inputs as parts
use Rattle.engine_parts.proofs.Blocks.{inputs_elements}
use Rattle.jobs.specs.declared.job.Job.{Job}
use Rattle.jobs.specs.Tables.{job_of, first_job, messages_in, numbered_from, rank_in, keeps, first_state, pending_jobs}
use Rattle.engine.specs.declared.state.Engine.{Engine}
use Rattle.engine.specs.Fields.{with_jobs, AmongRanks}
use Rattle.engine.specs.Abs.{plain, Stands}
use Rattle.engine.proofs.Onward.{known, Leads, leads}

-- the root that a collective names is the one that the machine goes by
pub root_same : (c : Collective) → root_for (kind_of c) (root_of c) ≡ root_of c
root_same (Broadcast root) = refl
root_same (Gather root) = refl
root_same (Reduce root) = refl
root_same Scan = refl
root_same Exscan = refl
root_same Allreduce = refl

blocks_same : (w n : ℕ) (ws : List ℕ) → parts.blocks w n ws ≡ blocks w n ws
blocks_same w zero ws = refl
blocks_same w (suc n) ws = ap (λ l. take w ws ∷ l) (blocks_same w n (drop w ws))

length-blocks : (w n : ℕ) (ws : List ℕ) → length (blocks w n ws) ≡ n
length-blocks w zero ws = refl
length-blocks w (suc n) ws = ap suc (length-blocks w n (drop w ws))

module _ {E : Type 0} where
  elements_all : (xs : List E) → elements (map Ok xs) ≡ xs
  elements_all [] = refl
  elements_all (x ∷ xs) = ap (λ l. x ∷ l) (elements_all xs)

  none_refused : (r : ℕ) (xs : List E) → block_refusal r (map Ok xs) ≡ none
  none_refused r [] = refl
  none_refused r (x ∷ xs) = none_refused (suc r) xs

  first_refused : (r : ℕ) (us : List (Result E BlockFault)) (b : BadBlock) → parts.inputs_of r us ≡ Err b → block_refusal r us ≡ some (bad_block b.rank b.fault)
  first_refused r [] b e = let z : ◌≡◌ {A = ℕ} 0 1 = cc in absurd (omega arith)
  first_refused r (Ok x ∷ us) b e = go (parts.inputs_of (suc r) us) refl e (first_refused (suc r) us b)
    where
      go : (o : Result (List E) BadBlock) → parts.inputs_of (suc r) us ≡ o → parts.behind (x ∷ []) o ≡ Err b → (parts.inputs_of (suc r) us ≡ Err b → block_refusal (suc r) us ≡ some (bad_block b.rank b.fault))
          → block_refusal (suc r) us ≡ some (bad_block b.rank b.fault)
      go (Ok ys) f g more = let z : ◌≡◌ {A = ℕ} 0 1 = cc in absurd (omega arith)
      go (Err a) f g more = more (f ∙ g)
  first_refused r (Err f ∷ us) b e =
      let same : record { rank = r; fault = f } ≡ b = cc in
      ap (λ (x : BadBlock). some (bad_block x.rank x.fault)) same

  padded_err : (m : Meaning E) (n : ℕ) (o : Result (List E) BadBlock) (b : BadBlock) → Err b ≡ parts.padded m n o → o ≡ Err b
  padded_err m n (Ok xs) b e = let z : ◌≡◌ {A = ℕ} 0 1 = cc in absurd (omega arith)
  padded_err m n (Err a) b e = let same : a ≡ b = cc in ap Err same

  -- the elements in front of an array
  pub record Front (m : Meaning E) (n : ℕ) (o : Result (List E) BadBlock) (xs : List E) : Type 0 where
    pub items : List E
    pub read : o ≡ Ok items
    pub padding : xs ≡ items ++ replicate (64 - n) m.unit

  padded_ok : (m : Meaning E) (n : ℕ) (o : Result (List E) BadBlock) (xs : List E) → Ok xs ≡ parts.padded m n o → Front m n o xs
  padded_ok m n (Ok ys) xs e = record { items = ys; read = refl; padding = cc }
  padded_ok m n (Err a) xs e = let z : ◌≡◌ {A = ℕ} 0 1 = cc in absurd (omega arith)

  -- ranks that hold their inputs
  at_first : (c : Collective) (kept : List E) (u : E) (r : ℕ) (ys : List E) → numbered_from (rank_in c kept) r (map (first_state u) ys) ≡ map (fresh u) ys
  at_first c kept u r [] = refl
  at_first c kept u r (y ∷ ys) = ap₂ (λ (l : List E) more. record { done = 0; value = y; prefix = u; kept = l; arrival = 0; departure = 0 } ∷ more) (none_kept (keeps c r) kept) (at_first c kept u (suc r) ys)
    where
      none_kept : (t : Bool) (l : List E) → cond t (take 0 l) [] ≡ []
      none_kept true [] = refl
      none_kept true (x ∷ l) = refl
      none_kept false l = refl

  pub messages_same : (p : ℕ) (js : List (Job E)) → AmongRanks p js → messages_in js ≡ messages_pending p (map job_of js)
  messages_same p [] h = refl
  messages_same p (j ∷ js) h = ap₂ ◌+◌ (ap (messages_of j.schedule.collective) h.0) (messages_same p js h.1)

pub ranks_few : {O T E : Type 0} {op : Operation O E} {t : Transport T} (e : Engine O T E op t) → (t.meaning e.transport).ranks ≤ most_ranks
ranks_few e = known e (hlevel props) (λ o h. omega (arith, h.good.sound.same_ranks, h.good.well.few_ranks))

module _ {O T E : Type 0} {op : Operation O E} {t : Transport T} (e : Engine O T E op t) (origin : Network) (h : Stands origin e) (c : Collective) (words : List ℕ) where
  abbrev s : Plain E
  s = plain origin e

  abbrev js : List (Job E)
  js = pending_jobs e.jobs

  abbrev p : ℕ
  p = (t.meaning e.transport).ranks

  abbrev m : Meaning E
  m = op.meaning e.operation

  abbrev Comes : Answer → Type 0
  Comes a = ◌≡◌ {A = Answer × Plain E} (a, s) (step s (start (kind_of c) (root_of c) words))

  many : length s.jobs ≡ length js
  many = length-map js job_of

  pub unfit_step : false ≡ fit s → Comes (refused unfit)
  unfit_step f = sym (start_unfit s (kind_of c) (root_of c) words (sym f))

  module _ (fits : true ≡ fit s) where
    pub root_step : (root_of c < p → ⊥) → Comes (refused bad_root)
    root_step f = sym (start_root s (kind_of c) (root_of c) words (sym fits) (ap (λ r. ltb r p) (root_same c) ∙ le-ltb (root_of c) p (omega (arith, f))))

    module _ (rooted : root_of c < p) where
      root_low : ltb (root_for (kind_of c) (root_of c)) p ≡ true
      root_low = ap (λ r. ltb r p) (root_same c) ∙ lt-ltb (root_of c) p rooted

      pub length-step : (length words ≡ p * m.width → ⊥) → Comes (refused bad_length)
      length-step f = sym (start_length s (kind_of c) (root_of c) words (sym fits) root_low (ne_eqb (length words) (p * m.width) f))

      module _ (full : length words ≡ p * m.width) where
        whole : eqb (length words) (p * m.width) ≡ true
        whole = eq-eqb (length words) (p * m.width) full

        abbrev us : List (Result E BlockFault)
        us = blocks_read s words

        us_same : parts.blocks_read m p words ≡ us
        us_same = ap (map m.unpack) (blocks_same m.width p words)

        pub block_step : (b : BadBlock) → Err b ≡ parts.padded m p (parts.inputs_of 0 (parts.blocks_read m p words)) → Comes (refused (bad_block b.rank b.fault))
        block_step b f =
            let bad = first_refused 0 us b (padded_err m p (parts.inputs_of 0 us) b (f ∙ ap (λ l. parts.padded m p (parts.inputs_of 0 l)) us_same)) in
            sym (start_block s (kind_of c) (root_of c) words (sym fits) root_low whole (bad_block b.rank b.fault) bad)

        module _ (xs : List E) (read : Ok xs ≡ parts.padded m p (parts.inputs_of 0 (parts.blocks_read m p words))) where
          front : Front m p (parts.inputs_of 0 us) xs
          front = padded_ok m p (parts.inputs_of 0 us) xs (read ∙ ap (λ l. parts.padded m p (parts.inputs_of 0 l)) us_same)

          abbrev ys : List E
          ys = front.items

          us_all : us ≡ map Ok ys
          us_all = inputs_elements 0 us ys front.read

          items_many : length ys ≡ p
          items_many = sym (length-map ys Ok) ∙ sym (ap length us_all) ∙ length-map (blocks m.width p words) m.unpack ∙ length-blocks m.width p words

          no_bad : block_refusal 0 us ≡ none
          no_bad = ap (block_refusal 0) us_all ∙ none_refused 0 ys

          pub four_step : 4 ≤ length js → Comes (refused four_pending)
          four_step f = sym (start_four s (kind_of c) (root_of c) words (sym fits) root_low whole no_bad (le-leb 4 (length s.jobs) (omega (arith, many))))

          module _ (few : length js < 4) where
            pending_few : leb 4 (length s.jobs) ≡ false
            pending_few = lt-leb 4 (length s.jobs) (omega (arith, many))

            pub crowded_step : true ≡ crowds s (kind_of c) (root_of c) → Comes (refused crowded)
            crowded_step f = sym (start_crowded s (kind_of c) (root_of c) words (sym fits) root_low whole no_bad pending_few (ap (crowds s (kind_of c)) (root_same c) ∙ sym f))

            module _ (roomy : false ≡ crowds s (kind_of c) (root_of c)) where
              has_room : crowds s (kind_of c) (root_for (kind_of c) (root_of c)) ≡ false
              has_room = ap (crowds s (kind_of c)) (root_same c) ∙ sym roomy

              pub spent_step : 65535 ≤ e.started → Comes (refused numbers_spent)
              spent_step f = sym (start_spent s (kind_of c) (root_of c) words (sym fits) root_low whole no_bad pending_few has_room (le-leb 65535 e.started f))

              module _ (left : e.started < 65535) (schedule : Schedule) (same : schedule.collective ≡ c) (among : schedule.ranks ≡ p) where
                abbrev new : Job E
                new = first_job (e.started + 1) schedule xs m.unit

                xs_front : take p xs ≡ ys
                xs_front = ap (take p) front.padding ∙ ap (λ n. take n (ys ++ replicate (64 - p) m.unit)) (sym items_many) ∙ take-append_seam ys (replicate (64 - p) m.unit)

                new_is : job_of new ≡ new_job s (kind_of c) (root_for (kind_of c) (root_of c)) (elements us)
                new_is =
                    let kept : List E = replicate most_ranks m.unit in
                    let inputs : elements us ≡ ys = ap elements us_all ∙ elements_all ys in
                    let ranks : (d : Collective) → numbered_from (rank_in d kept) 0 (take p (map (first_state m.unit) xs)) ≡ map (fresh m.unit) ys
                    = λ d. ap (numbered_from (rank_in d kept) 0) (take-map (first_state m.unit) p xs ∙ ap (map (first_state m.unit)) xs_front) ∙ at_first d kept m.unit 0 ys in
                    let made : Collective → ℕ → List E → List (Rank E) → machine.Job E = λ d q i r. record { number = e.started + 1; kind = kind_of d; root = root_of d; inputs = i; ranks = r; sent = 0 } in
                    ap₂ (λ d n. made d n (take n xs) (numbered_from (rank_in d kept) 0 (take n (map (first_state m.unit) xs)))) same among
                    ∙ ap₂ (made c p) xs_front (ranks c)
                    ∙ ap₂ {C = machine.Job E} (λ q i. record { number = e.started + 1; kind = kind_of c; root = q; inputs = i; ranks = map (fresh m.unit) i; sent = 0 }) (sym (root_same c)) (sym inputs)

                pub started_step : (js' : List (Job E)) → js' ≡ js ++ (new ∷ [])
                    → ◌≡◌ {A = Answer × Plain E} (started e.name (e.started + 1), with_jobs e.name m origin (t.meaning e.transport) (e.started + 1) js') (step s (start (kind_of c) (root_of c) words))
                started_step js' js-is =
                    let jobs = ap (map job_of) js-is ∙ map-append job_of js (new ∷ []) ∙ ap (λ j. map job_of js ++ (j ∷ [])) new_is in
                    (λ i. (started e.name (e.started + 1), record { name = e.name; meaning = m; origin = origin; now = t.meaning e.transport; started = e.started + 1; jobs = jobs i }))
                    ∙ sym (start_done s (kind_of c) (root_of c) words (sym fits) root_low whole no_bad pending_few has_room (lt-leb 65535 e.started left))

                pub started_ranks : (q : ℕ) → AmongRanks q js → (js' : List (Job E)) → js' ≡ js ++ (new ∷ []) → p ≡ q → AmongRanks q js'
                started_ranks q all js' js-is pq = subst (AmongRanks q) (sym js-is) (pushed js all)
                  where
                    pushed : (l : List (Job E)) → AmongRanks q l → AmongRanks q (l ++ (new ∷ []))
                    pushed [] a = (among ∙ pq, tt)
                    pushed (j ∷ l) a = (a.0, pushed l a.1)

  -- with one job more too many would wait between two ranks
  pub too_deep : (t.meaning e.transport).depth ≤ length js → true ≡ crowds s (kind_of c) (root_of c)
  too_deep f = sym (or_left _ _ (lt-ltb (t.meaning e.transport).depth (length s.jobs + 1) (omega (arith, many))))

  -- else the room tells
  pub room_tells : length js < (t.meaning e.transport).depth → (b : Bool) → b ≡ ltb (t.meaning e.transport).room (messages_in js + messages_of c p) → b ≡ crowds s (kind_of c) (root_of c)
  room_tells f b is =
      is ∙ ap (λ n. ltb (t.meaning e.transport).room (n + messages_of c p)) (messages_now)
      ∙ sym (ap (λ b. b || ltb s.now.room (messages_pending p s.jobs + messages (kind_of c) p (root_of c))) (le-ltb (t.meaning e.transport).depth (length s.jobs + 1) (omega (arith, many))))
    where
      messages_now : messages_in js ≡ messages_pending p s.jobs
      messages_now = messages_same p js (subst (λ q. AmongRanks q js) (sym h.good.sound.same_ranks) h.same_ranks)

module _ {O T E : Type 0} {op : Operation O E} {t : Transport T} (e : Engine O T E op t) (c : Collective) (words : List ℕ) where
  -- a start that nothing refuses
  pub starts : ((origin : Network) → Stands origin e → true ≡ fit (plain origin e))
      → root_of c < (t.meaning e.transport).ranks → length words ≡ (t.meaning e.transport).ranks * (op.meaning e.operation).width
      → (xs : List E) → Ok xs ≡ parts.padded (op.meaning e.operation) (t.meaning e.transport).ranks (parts.inputs_of 0 (parts.blocks_read (op.meaning e.operation) (t.meaning e.transport).ranks words))
      → length (pending_jobs e.jobs) < 4
      → ((origin : Network) → Stands origin e → false ≡ crowds (plain origin e) (kind_of c) (root_of c))
      → e.started < 65535
      → (schedule : Schedule) → schedule.collective ≡ c → schedule.ranks ≡ (t.meaning e.transport).ranks
      → (js : List (Job E)) → js ≡ pending_jobs e.jobs ++ (first_job (e.started + 1) schedule xs (op.meaning e.operation).unit ∷ [])
      → Leads e (start (kind_of c) (root_of c) words) (started e.name (e.started + 1)) (t.meaning e.transport) (e.started + 1) js
  starts fits rooted full xs read few roomy left schedule same among js js-is =
      leads e (start (kind_of c) (root_of c) words) (started e.name (e.started + 1)) (t.meaning e.transport) (e.started + 1) js
      (λ o h. started_ranks e o h c words (fits o h) rooted full xs read few (roomy o h) left schedule same among o.ranks h.same_ranks js js-is h.good.sound.same_ranks)
      (λ o h. started_step e o h c words (fits o h) rooted full xs read few (roomy o h) left schedule same among js js-is)

-- the schedule of an allowed collective is among the transport's ranks
pub rooted_in : (s : Schedule) {c : Collective} {p : ℕ} → s.collective ≡ c → s.ranks ≡ p → root_of c < p
rooted_in s same among = omega (arith, s.allowed.0, ap root_of same, among)

-- what is pending has room
pub messages_fit : {O T E : Type 0} {op : Operation O E} {t : Transport T} (e : Engine O T E op t) → messages_in (pending_jobs e.jobs) ≤ (t.meaning e.transport).room
messages_fit {t = t} e =
    known e (hlevel props) (λ o h.
    let js = pending_jobs e.jobs in
    let same = messages_same (t.meaning e.transport).ranks js (subst (λ q. AmongRanks q js) (sym h.good.sound.same_ranks) h.same_ranks) in
    omega (arith, same, h.good.sound.pending_room))

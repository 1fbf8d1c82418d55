use Rattle.std.proofs.Common.{◌≡◌, ℕ, Bool, cond, sym, ap, ◌∙◌, rules}
use Rattle.programme.specs.declared.Merge.{Merge}
use Rattle.programme.specs.declared.Merge.TheVariants.{Replace, Keep, Before, After, Prefix}
use Rattle.programme.specs.contracts.Merge.{the_type}
use denote.Enum.Bare.{sameb}
use Rattle.jobs.specs.declared.job.Job.{Job}
use Rattle.jobs.specs.Tables.{with_state, with_kept, kept_after}
use Rattle.jobs.proofs.job.Job.receive.Goals as goal
use Rattle.jobs.proofs.job.Job.receive.Goals.{then-eq, else-eq}

module _ {E : Type 0} (at : ℕ) (v : E) (j : Job E) where
  -- what is kept, by the test for Keep
  tested : (m : Merge) (b : Bool) → b ≡ sameb the_type m Keep → cond b (with_kept at v j) j ≡ kept_after m at v j
  tested Replace b e = ap (λ t. cond t (with_kept at v j) j) e
  tested Keep b e = ap (λ t. cond t (with_kept at v j) j) e
  tested Before b e = ap (λ t. cond t (with_kept at v j) j) e
  tested After b e = ap (λ t. cond t (with_kept at v j) j) e
  tested Prefix b e = ap (λ t. cond t (with_kept at v j) j) e

pub returns : goal.returns
returns g c =
    let j = c.args.self.now in
    let kept = with_kept c.args.at c.args.value j in
    let last = tested c.args.at c.args.value j c.args.merge c.eq.result c.eq.ensures in
    let left = with_state c.args.rank c.args.state j.sent in
    record {
      changed =
          elim c.if-eq.branch [
            | then-eq w ↦ c.put.ensures ∙ ap (λ i. with_state c.args.rank c.args.state i.sent i) w.self-is ∙ ap left (ap (λ t. cond t kept j) (sym w.if-eq.true) ∙ last)
            | else-eq w ↦ c.put.ensures ∙ ap (λ i. with_state c.args.rank c.args.state i.sent i) w.self-is ∙ ap left (ap (λ t. cond t kept j) (sym w.if-eq.false) ∙ last)
          ];
      room = search rules;
    }

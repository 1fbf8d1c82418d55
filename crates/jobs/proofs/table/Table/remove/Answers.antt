use Rattle.std.proofs.Common.{◌≡◌, ℕ, ◌+◌, ◌-◌, ◌<◌, ◌≤◌, List, length, get_or, drop, set, sym, refl, ap, ◌∙◌, ap₂, subst, arith, get_or-drop, length-drop}
use Rattle.std.proofs.Math.Seq.{paste}
use Rattle.std.specs.List.{copy_within}
use Rattle.std.proofs.lemmas.List.Edits.{paste_none, paste_more, drop-paste}
use Rattle.transport.proofs.Gaps.{gap_closed}
use Rattle.jobs.proofs.Sizes.{pending_size}
use Rattle.jobs.proofs.table.Table.remove.Goals as goal

module _ {X : Type 0} (xs : List X) (at : ℕ) where
  -- none has moved
  gap_none : xs ≡ copy_within xs (at + 1) (at + 1) at
  gap_none =
      let none : 0 ≡ (at + 1) - (at + 1) = omega arith in
      paste_none xs at (drop (at + 1) xs) ∙ ap (paste xs at (drop (at + 1) xs)) none

  -- one more moves
  gap_more : (ys : List X) (place : ℕ) (d : X) → ys ≡ copy_within xs (at + 1) (place + 1) at → at ≤ place → place + 1 < length xs → set ys place (get_or ys (place + 1) d) ≡ copy_within xs (at + 1) ((place + 1) + 1) at
  gap_more ys place d e low high =
      let n = place - at in
      let s = drop (at + 1) xs in
      let here : place ≡ at + n = omega arith in
      let moved : (place + 1) - (at + 1) ≡ n = omega arith in
      let now : ys ≡ paste xs at s n = e ∙ ap (paste xs at s) moved in
      let fits : n < length s = omega (arith, length-drop (at + 1) xs) in
      let rest : drop place ys ≡ drop place xs = ap₂ drop here now ∙ drop-paste xs at s n (omega arith) (omega arith) ∙ ap (λ m. drop m xs) (sym here) in
      let next : place + 1 ≡ (at + 1) + n = omega arith in
      let more : n + 1 ≡ ((place + 1) + 1) - (at + 1) = omega arith in
      let read : get_or ys (place + 1) d ≡ get_or s n d =
      sym (get_or-drop place ys 1 d)
      ∙ ap (λ l. get_or l 1 d) rest
      ∙ get_or-drop place xs 1 d
      ∙ ap (λ m. get_or xs m d) next
      ∙ sym (get_or-drop (at + 1) xs n d) in
      ap (set ys place) read
      ∙ ap₂ (λ l m. set l m (get_or s n d)) now here
      ∙ paste_more xs at s n d (omega arith) fits
      ∙ ap (paste xs at s) more

pub loop-place-init : goal.loop-place-init
loop-place-init g c = (gap_none c.args.self.now.jobs c.args.i, refl)

pub loop-place-preserved : goal.loop-place-preserved
loop-place-preserved g c =
    let t = c.args.self.now in (
      gap_more t.jobs c.args.i c.loop-place.self.jobs c.loop-place.place c.index-self-place.result c.loop-place.invariant.0 (omega arith) (omega (arith, t.sized, t.few)),
      c.loop-place.invariant.1,
    )

pub returns : goal.returns
returns g c =
    let t = c.args.self.now in
    let inside : c.args.i < t.pending = subst (λ n. c.args.i < n) (pending_size t) c.requires in
    let end : c.loop-place.place ≤ t.pending - 1 = c.loop-place.auto.place-end (omega (arith, inside)) in
    let last : c.loop-place.place + 1 ≡ t.pending = omega (arith, inside, c.loop-place-test.false) in
    gap_closed t.jobs _ c.args.i t.pending (c.loop-place.invariant.0 ∙ ap (λ n. copy_within t.jobs (c.args.i + 1) n c.args.i) last) inside (omega (arith, t.sized, t.few))

-- `launch_expected::Trial::fitting` meets its contract: the set is that of the bytes tried.
-- Assumes nothing.
use Rattle.std.proofs.Common.{◌≡◌, ◌<◌, refl, ap, ◌∙◌, arith, [], ◌∷◌, ℕ, get_or, length, min, length-take}
use Rattle.std.proofs.lemmas.List.{get_or-take}
use Rattle.launch_expected.specs.Following.{follows, following}
use Rattle.launch_expected.specs.Tried.{kept_on, with_byte, without-byte}
use Rattle.launch_expected.proofs.Trial.fitting.Goals as goal
use Rattle.launch_expected.proofs.Trial.fitting.Goals.{then-fits, else-fits}

pub loop-i-init : goal.loop-i-init
unfolding following
loop-i-init c = record { kept = record { place = refl; length = refl; front = refl }; found = refl }

pub overflow_cast-i : goal.overflow_cast-i
overflow_cast-i c = omega (arith, ap length c.front-tried.ensures, length-take 64 c.args.bytes.now)

pub loop-i-preserved : goal.loop-i-preserved
loop-i-preserved c =
    let v = c.loop-i.invariant in
    let f = c.fits.ensures in
    let h : c.loop-i.i < 64 = omega (arith, c.loop-i-test.true, ap length c.front-tried.ensures, length-take 64 c.args.bytes.now) in
    let b : get_or c.front-tried.result.now c.loop-i.i 0 ≡ get_or c.args.bytes.now c.loop-i.i 0 =
    ap (λ t. get_or t c.loop-i.i 0) c.front-tried.ensures ∙ get_or-take 64 c.args.bytes.now c.loop-i.i 0 h in
    let e = f.value ∙ ap (λ p. follows c.loop-i.self.room.now p (get_or c.front-tried.result.now c.loop-i.i 0 ∷ [])) v.kept.place ∙ ap (λ (x : ℕ). follows c.loop-i.self.room.now c.args.self.now.place (x ∷ [])) b in
    record {
      kept = kept_on v.kept f.kept;
      found = elim c.if-fits.branch [ then-fits w ↦ with_byte _ _ _ _ _ v.kept.length v.kept.front _ e _ v.found w.if-fits.true _ (w.set-is ∙ w.with-set.ensures) | else-fits w ↦ w.set-is ∙ without-byte _ _ _ _ _ v.kept.length v.kept.front _ e _ v.found w.if-fits.false ];
    }

pub returns : goal.returns
returns c =
    let v = c.loop-i.invariant in
    let k : c.loop-i.i ≡ min 64 (length c.args.bytes.now) = omega (arith, c.loop-i-test.false, ap length c.front-tried.ensures, length-take 64 c.args.bytes.now) in
    record { value = v.found ∙ ap (following _ _ _) k; kept = v.kept }

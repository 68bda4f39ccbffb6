-- `launch_expected::Trial::fits` meets its contract: the reader is asked for the text with the bytes.
-- Assumes nothing.
use Rattle.std.proofs.Common.{refl, ap, ◌∙◌}
use Rattle.launch_expected.specs.Tried.{no_place, tried, kept-front}
use Rattle.launch_expected.proofs.Trial.fits.Goals as goal

pub returns-then-room-self : goal.returns-then-room-self
returns-then-room-self c = record { value = no_place _ _ _ c.if-room-self.true; kept = record { place = refl; length = refl; front = refl } }

pub returns-in-Ok : goal.returns-in-Ok
returns-in-Ok c = record {
  value = tried _ _ _ c.if-room-self.false _ _ c.put_bytes-end.ensures _ (ap (λ t. t.now) c.new.ensures.0 ∙ c.front.ensures) _ _ c.read.ensures c.in-Ok.is;
  kept = record { place = refl; length = c.put_bytes-end.auto.out; front = kept-front _ _ _ c.if-room-self.false _ _ c.put_bytes-end.ensures };
}

pub returns-in-Err : goal.returns-in-Err
returns-in-Err c = record {
  value = tried _ _ _ c.if-room-self.false _ _ c.put_bytes-end.ensures _ (ap (λ t. t.now) c.new.ensures.0 ∙ c.front.ensures) _ _ c.read.ensures c.in-Err.is;
  kept = record { place = refl; length = c.put_bytes-end.auto.out; front = kept-front _ _ _ c.if-room-self.false _ _ c.put_bytes-end.ensures };
}

use Rattle.trial.proofs.start.counted.Goals as goal

-- each byte is what the closure gave
pub returns : goal.returns
returns g c = λ i h. (c.from_fn.ensures.items.at i 0 h).2.met

-- The parts of what a machine's function promises of what it hands on, by their names.

-- yields: what is left of the call. limits: a state to go on from passes question 10, where the one before did
pub record Keeps (Yields Limits : Type 0) : Type 0 where
  pub yields : Yields
  pub limits : Limits

-- due: the attempts begun and to come, at most
pub record Counts (Yields Limits Due : Type 0) : Type 0 where
  pub yields : Yields
  pub limits : Limits
  pub due : Due

-- within: the accesses that are left, at most, fewer after each step
pub record Bounds (Yields Limits Within : Type 0) : Type 0 where
  pub yields : Yields
  pub limits : Limits
  pub within : Within

-- holds: what a lent buffer then holds
pub record Stores (Yields Limits Holds : Type 0) : Type 0 where
  pub yields : Yields
  pub limits : Limits
  pub holds : Holds

-- What a comparison tells of meanings.
-- P and Q hold together exactly where E does
abbrev pub BothWays : Type 0 → Type 0 → Type 0 → Type 0
BothWays P Q E = (P → Q → E) × (E → P × Q)

-- What the answers of the cycle and its invariants cite. Assumes nothing.
mod Body

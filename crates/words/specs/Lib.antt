pub mod Form
pub mod Word
pub mod Trees
pub mod Sound

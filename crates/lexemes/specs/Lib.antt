pub mod Lexeme

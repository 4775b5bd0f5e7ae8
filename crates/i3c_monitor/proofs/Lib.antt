pub mod CodeLaws
pub mod DueLaws
pub mod LintLaws
pub mod PieceLaws
pub mod TraceLaws

pub mod StridesLaws

mod StoryLemmas
pub mod ReadTexts
pub mod LineTexts
pub mod InnerTexts
pub mod StoryLines
